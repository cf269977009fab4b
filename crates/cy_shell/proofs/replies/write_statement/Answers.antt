use Rattle.std.proofs.Common.{◌∙◌}
use Rattle.std.proofs.lemmas.Result.{on_ok_weaker}
use Rattle.cy_shell.specs.Json.{list_json, row_json}
use Rattle.cy_shell.specs.Replies.{changed_json, columns_json}
use Rattle.cy_shell.proofs.Objects.{three_fields}
use Rattle.cy_shell.proofs.replies.write_statement.Goals as goal

pub returns-clause-tokens : goal.returns-clause-tokens
returns-clause-tokens c =
    on_ok_weaker c.end_object.result
    (λ ended. ended ∙ three_fields _ _ _ _ _ _ _ _ (changed_json c.args.changed.now) (columns_json c.args.columns.now)
    (list_json row_json c.args.rows.now) c.in_ok-begin_object.ensures.ok c.in_ok-write_field.ensures.tokens
    c.in_ok-write_field-2.ensures.tokens c.in_ok-write_field-3.ensures.tokens)
    c.end_object.ensures.ok
