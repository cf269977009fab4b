use Rattle.std.proofs.Common.{◌≡◌, List, ℕ, refl, sym, ap, subst, ◌∙◌, Ok}
use Rattle.std.proofs.lemmas.Result.{err_from_is_err_and}
use Rattle.cy_lexer.specs.Tokens.{tokens_of}
use Rattle.cy_engine_lines.specs.internal.Stages.{AnswersKept, shown}
use Rattle.cy_engine_lines.specs.Requests.{Nothing, StatementOf, ViewOf, RowsOf, SinceOf, ListOfViews, ListOfSteps, DropOf, IndexOf, request}
use Rattle.cy_engine_lines.specs.KeptStep.{kept_state_of}
use Rattle.cy_engine_views.specs.RegisteredViews.{Entries}
use Rattle.cy_engine_lines.proofs.Lines.{answered_step, asks_some, kept_step, lex_refused, request_refused, rows_answered, since_answered, steps_answered, views_answered, no_error, same_error}
use Rattle.cy_engine_lines.proofs.engine.Engine.reply_to.Goals as goal

pub returns-in_err-tokens : goal.returns-in_err-tokens
returns-in_err-tokens c =
    let p = err_from_is_err_and c.from_residual.result c.from_residual.ensures.1 in
    rw (p.1, p.2) (lex_refused c.args.line.now (kept_state_of c.args.self.now) c.args.entries.now c.in_err-tokens.field-0.0 c.requires.none
    c.in_err-tokens.ensures.fault (λ long. same_error c.in_err-tokens.field-0.0 _ (c.in_err-tokens.ensures.long long)) c.in_err-tokens.ensures.memory)

pub returns-in_err-read_request : goal.returns-in_err-read_request
returns-in_err-read_request c =
    let p = err_from_is_err_and c.from_residual-in_err-read_request.result c.from_residual-in_err-read_request.ensures.1 in
    let made : tokens_of c.args.line.now ≡ Ok c.as_slice.result.now = c.in_ok-tokens.ensures.tokens ∙ ap Ok (sym c.as_slice.ensures.value) in
    rw (p.1, p.2) (request_refused c.args.line.now c.as_slice.result.now (kept_state_of c.args.self.now) c.args.entries.now c.in_err-read_request.field-0.0 c.requires.none made
    (λ long. no_error _ _ (c.in_ok-tokens.ensures.long long)) c.in_err-read_request.ensures.some c.in_err-read_request.ensures.request)

pub returns-in-Nothing : goal.returns-in-Nothing
returns-in-Nothing c =
    let made : tokens_of c.args.line.now ≡ Ok c.as_slice.result.now = c.in_ok-tokens.ensures.tokens ∙ ap Ok (sym c.as_slice.ensures.value) in
    let asks : request c.args.line.now c.as_slice.result.now ≡ Nothing = c.in_ok-read_request.ensures.request ∙ ap shown c.in-Nothing.is in
    let old = kept_state_of c.args.self.now in
    record {
      step = answered_step c.args.line.now c.as_slice.result.now Nothing made asks old.engine _ c.args.entries.now old.engine (record { answered = refl; no_entries = c.requires.none; state = refl });
      upkeep = refl;
    }

pub returns-in-Statement : goal.returns-in-Statement
returns-in-Statement c =
    let made : tokens_of c.args.line.now ≡ Ok c.as_slice.result.now = c.in_ok-tokens.ensures.tokens ∙ ap Ok (sym c.as_slice.ensures.value) in
    let asks : request c.args.line.now c.as_slice.result.now ≡ StatementOf c.in-Statement.tokens.now = c.in_ok-read_request.ensures.request ∙ ap shown c.in-Statement.is in
    kept_step c.args.line.now c.as_slice.result.now (StatementOf c.in-Statement.tokens.now) made asks (λ long. no_error _ _ (c.in_ok-tokens.ensures.long long)) (asks_some c.args.line.now c.as_slice.result.now _ asks (λ e. cc))
    (kept_state_of c.args.self.now) _ _ _ c.answer_statement.ensures

pub returns-in-View : goal.returns-in-View
returns-in-View c =
    let made : tokens_of c.args.line.now ≡ Ok c.as_slice.result.now = c.in_ok-tokens.ensures.tokens ∙ ap Ok (sym c.as_slice.ensures.value) in
    let asks : request c.args.line.now c.as_slice.result.now ≡ ViewOf c.as_str.result.now c.in-View.query.now = c.in_ok-read_request.ensures.request ∙ ap shown c.in-View.is ∙ ap (λ (n : List ℕ). ViewOf n c.in-View.query.now) (sym c.as_str.ensures) in
    kept_step c.args.line.now c.as_slice.result.now (ViewOf c.as_str.result.now c.in-View.query.now) made asks (λ long. no_error _ _ (c.in_ok-tokens.ensures.long long)) (asks_some c.args.line.now c.as_slice.result.now _ asks (λ e. cc))
    (kept_state_of c.args.self.now) _ _ _
    (subst (λ (es : Entries). AnswersKept c.args.line.now (ViewOf c.as_str.result.now c.in-View.query.now) (kept_state_of c.args.self.now) c.make_view.result es (kept_state_of c.make_view.new.self)) (sym c.requires.none) c.make_view.ensures)

pub returns-in-Rows : goal.returns-in-Rows
returns-in-Rows c =
    let made : tokens_of c.args.line.now ≡ Ok c.as_slice.result.now = c.in_ok-tokens.ensures.tokens ∙ ap Ok (sym c.as_slice.ensures.value) in
    let asks : request c.args.line.now c.as_slice.result.now ≡ RowsOf c.as_str-in-Rows.result.now = c.in_ok-read_request.ensures.request ∙ ap shown c.in-Rows.is ∙ ap RowsOf (sym c.as_str-in-Rows.ensures) in
    kept_step c.args.line.now c.as_slice.result.now (RowsOf c.as_str-in-Rows.result.now) made asks (λ long. no_error _ _ (c.in_ok-tokens.ensures.long long)) (asks_some c.args.line.now c.as_slice.result.now _ asks (λ e. cc))
    (kept_state_of c.args.self.now) _ _ _
    (rows_answered c.args.line.now (kept_state_of c.args.self.now) c.args.entries.now c.requires.none c.as_str-in-Rows.result.now c.show_rows.result c.show_rows.ensures)

pub returns-in-Since : goal.returns-in-Since
returns-in-Since c =
    let made : tokens_of c.args.line.now ≡ Ok c.as_slice.result.now = c.in_ok-tokens.ensures.tokens ∙ ap Ok (sym c.as_slice.ensures.value) in
    let asks : request c.args.line.now c.as_slice.result.now ≡ SinceOf c.as_str-in-Since.result.now c.in-Since.tick = c.in_ok-read_request.ensures.request ∙ ap shown c.in-Since.is ∙ ap (λ (n : List ℕ). SinceOf n c.in-Since.tick) (sym c.as_str-in-Since.ensures) in
    kept_step c.args.line.now c.as_slice.result.now (SinceOf c.as_str-in-Since.result.now c.in-Since.tick) made asks (λ long. no_error _ _ (c.in_ok-tokens.ensures.long long)) (asks_some c.args.line.now c.as_slice.result.now _ asks (λ e. cc))
    (kept_state_of c.args.self.now) _ _ _
    (since_answered c.args.line.now (kept_state_of c.args.self.now) c.args.entries.now c.requires.none c.as_str-in-Since.result.now c.in-Since.tick c.show_since.result c.show_since.ensures)

pub returns-in-ListOfViews : goal.returns-in-ListOfViews
returns-in-ListOfViews c =
    let made : tokens_of c.args.line.now ≡ Ok c.as_slice.result.now = c.in_ok-tokens.ensures.tokens ∙ ap Ok (sym c.as_slice.ensures.value) in
    let asks : request c.args.line.now c.as_slice.result.now ≡ ListOfViews = c.in_ok-read_request.ensures.request ∙ ap shown c.in-ListOfViews.is in
    kept_step c.args.line.now c.as_slice.result.now ListOfViews made asks (λ long. no_error _ _ (c.in_ok-tokens.ensures.long long)) (asks_some c.args.line.now c.as_slice.result.now _ asks (λ e. cc))
    (kept_state_of c.args.self.now) _ _ _
    (views_answered c.args.line.now (kept_state_of c.args.self.now) c.args.entries.now c.requires.none c.list_views.result c.list_views.ensures)

pub returns-in-ListOfSteps : goal.returns-in-ListOfSteps
returns-in-ListOfSteps c =
    let made : tokens_of c.args.line.now ≡ Ok c.as_slice.result.now = c.in_ok-tokens.ensures.tokens ∙ ap Ok (sym c.as_slice.ensures.value) in
    let asks : request c.args.line.now c.as_slice.result.now ≡ ListOfSteps = c.in_ok-read_request.ensures.request ∙ ap shown c.in-ListOfSteps.is in
    kept_step c.args.line.now c.as_slice.result.now ListOfSteps made asks (λ long. no_error _ _ (c.in_ok-tokens.ensures.long long)) (asks_some c.args.line.now c.as_slice.result.now _ asks (λ e. cc))
    (kept_state_of c.args.self.now) _ _ _
    (steps_answered c.args.line.now c.args.self.now c.args.entries.now c.list_steps.result c.requires.none c.list_steps.ensures)

pub returns-in-Drop : goal.returns-in-Drop
returns-in-Drop c =
    let made : tokens_of c.args.line.now ≡ Ok c.as_slice.result.now = c.in_ok-tokens.ensures.tokens ∙ ap Ok (sym c.as_slice.ensures.value) in
    let asks : request c.args.line.now c.as_slice.result.now ≡ DropOf c.in-Drop.name = c.in_ok-read_request.ensures.request ∙ ap shown c.in-Drop.is in
    kept_step c.args.line.now c.as_slice.result.now (DropOf c.in-Drop.name) made asks (λ long. no_error _ _ (c.in_ok-tokens.ensures.long long)) (asks_some c.args.line.now c.as_slice.result.now _ asks (λ e. cc))
    (kept_state_of c.args.self.now) _ _ _
    (subst (λ (es : Entries). AnswersKept c.args.line.now (DropOf c.in-Drop.name) (kept_state_of c.args.self.now) c.drop_view.result es (kept_state_of c.drop_view.new.self)) (sym c.requires.none) (c.drop_view.ensures c.args.line.now))

pub returns : goal.returns
returns c =
    let made : tokens_of c.args.line.now ≡ Ok c.as_slice.result.now = c.in_ok-tokens.ensures.tokens ∙ ap Ok (sym c.as_slice.ensures.value) in
    let asks : request c.args.line.now c.as_slice.result.now ≡ IndexOf c.in-Index.label c.in-Index.key = c.in_ok-read_request.ensures.request ∙ ap shown c.in-Index.is in
    kept_step c.args.line.now c.as_slice.result.now (IndexOf c.in-Index.label c.in-Index.key) made asks (λ long. no_error _ _ (c.in_ok-tokens.ensures.long long)) (asks_some c.args.line.now c.as_slice.result.now _ asks (λ e. cc))
    (kept_state_of c.args.self.now) _ _ _
    (subst (λ (es : Entries). AnswersKept c.args.line.now (IndexOf c.in-Index.label c.in-Index.key) (kept_state_of c.args.self.now) c.add_index.result es (kept_state_of c.add_index.new.self)) (sym c.requires.none) (c.add_index.ensures c.args.line.now))
