-- The session begins with the empty engine, and so the headline holds of what is written.
use Rattle.cy_shell.proofs.PrintedHeadline.{all_known, begun_known, read_known}
use Rattle.cy_shell.proofs.serving.run.Goals as goal

pub returns-clause-done : goal.returns-clause-done
returns-clause-done g c = rw c.in_ok-session.ensures.begins at c.serve.ensures.done

pub returns-clause-read : goal.returns-clause-read
returns-clause-read g c = rw c.in_ok-session.ensures.begins at c.serve.ensures.read

pub returns-clause-write : goal.returns-clause-write
returns-clause-write g c = rw c.in_ok-session.ensures.begins at c.serve.ensures.write

pub returns-clause-headline : goal.returns-clause-headline
returns-clause-headline g c = all_known c.headline_is_printed.ensures _ _ _ c.in_ok-session.ensures.begins c.serve.result _ _ _ _ c.serve.ensures.done

pub returns-clause-read_headline : goal.returns-clause-read_headline
returns-clause-read_headline g c = λ is. read_known c.headline_is_printed.ensures _ _ _ c.in_ok-session.ensures.begins _ _ _ _ _ (c.serve.ensures.read is)

pub returns-clause-write_headline : goal.returns-clause-write_headline
returns-clause-write_headline g c = λ is. begun_known c.headline_is_printed.ensures _ _ _ c.in_ok-session.ensures.begins _ _ _ _ _ _ _ (c.serve.ensures.write is)
