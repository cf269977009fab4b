use Rattle.std.proofs.Common.{◌≡◌, List, [], ◌∷◌, ◌++◌, Option, sym, ap, ◌∙◌}
use Rattle.std.specs.Option.{option_to_list}
use Rattle.cy_values.specs.declared.rows.Cell.{Cell}
use Rattle.cy_network_operators.specs.Deltas.{row_delta_between, deltas_of}
use Rattle.cy_network_sources.specs.internal.Through.{recounted}
use Rattle.cy_network_sources.proofs.Replaced.{after_others, come_alone, gone_alone}
use Rattle.cy_network_sources.proofs.ThroughScans.{on_ok_then}
use Rattle.cy_network_sources.proofs.recounts.add_replaced.Goals as goal

-- what is known of the rows that are told
told : (row : List Cell) (old new other_old other_new : Option (List Cell)) → old ≡ other_old → new ≡ other_new
    → recounted (option_to_list other_old) (option_to_list other_new) row ≡ recounted (option_to_list old) (option_to_list new) row
told row old new other_old other_new first second =
    ap (λ o. recounted (option_to_list o) (option_to_list other_new) row) (sym first) ∙ ap (λ o. recounted (option_to_list old) (option_to_list o) row) (sym second)

pub returns-in-None-Some-clause-recounted : goal.returns-in-None-Some-clause-recounted
returns-in-None-Some-clause-recounted c =
    on_ok_then _ _ c.add_row_delta.result
    (λ made row. ap (deltas_of row) made
    ∙ after_others row c.args.deltas.now.items (row_delta_between c.in-None-Some.new 0 1) (recounted [] (c.in-None-Some.new ∷ []) row) (come_alone row c.in-None-Some.new)
    ∙ ap (λ made. deltas_of row c.args.deltas.now.items ++ made) (told row c.args.old c.args.new _ _ c.in-None-Some.is-0 c.in-None-Some.is-1))
    c.add_row_delta.ensures

pub returns-in-Some-None-clause-recounted : goal.returns-in-Some-None-clause-recounted
returns-in-Some-None-clause-recounted c =
    on_ok_then _ _ c.add_row_delta-in-Some-None.result
    (λ made row. ap (deltas_of row) made
    ∙ after_others row c.args.deltas.now.items (row_delta_between c.in-Some-None.old 1 0) (recounted (c.in-Some-None.old ∷ []) [] row) (gone_alone row c.in-Some-None.old)
    ∙ ap (λ made. deltas_of row c.args.deltas.now.items ++ made) (told row c.args.old c.args.new _ _ c.in-Some-None.is-0 c.in-Some-None.is-1))
    c.add_row_delta-in-Some-None.ensures
