use Rattle.cy_updates.proofs.clauses.take_rows.Goals as goal

pub returns-in-Create-clause-meaning : goal.returns-in-Create-clause-meaning
returns-in-Create-clause-meaning c = rw c.in-Create.is (rw c.deref.ensures.value at c.create_on.ensures.meaning)

pub returns-in-Create-clause-columns : goal.returns-in-Create-clause-columns
returns-in-Create-clause-columns c = rw c.in-Create.is (rw c.deref.ensures.value at c.create_on.ensures.columns)

pub returns-in-Set-clause-meaning : goal.returns-in-Set-clause-meaning
returns-in-Set-clause-meaning c = rw c.in-Set.is (rw c.deref-in-Set.ensures.value at c.set_on.ensures.meaning)

pub returns-in-Set-clause-columns : goal.returns-in-Set-clause-columns
returns-in-Set-clause-columns c = rw c.in-Set.is c.set_on.ensures.columns

pub returns-in-Remove-clause-meaning : goal.returns-in-Remove-clause-meaning
returns-in-Remove-clause-meaning c = rw c.in-Remove.is (rw c.deref-in-Remove.ensures.value at c.remove_on.ensures.meaning)

pub returns-in-Remove-clause-columns : goal.returns-in-Remove-clause-columns
returns-in-Remove-clause-columns c = rw c.in-Remove.is c.remove_on.ensures.columns

pub returns-in-Delete-clause-meaning : goal.returns-in-Delete-clause-meaning
returns-in-Delete-clause-meaning c = rw c.in-Delete.is c.delete_on.ensures.meaning

pub returns-in-Delete-clause-columns : goal.returns-in-Delete-clause-columns
returns-in-Delete-clause-columns c = rw c.in-Delete.is c.delete_on.ensures.columns
