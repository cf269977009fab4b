use Rattle.std.proofs.Common.{◌≡◌, ◌≤◌, ◌∷◌, [], ◌++◌, List, ℕ, None, false, refl, sym, subst, ◌∙◌, arith}
use Rattle.std.specs.String.{string_eq}
use Rattle.indexmap.proofs.CallerLemmas.{insert_entry-new}
use Rattle.cy_trees.specs.declared.clauses.Statement as coded
use Rattle.cy_trees.specs.TreeModels.{statement_of}
use Rattle.cy_feeds.specs.Feeds.{Kept, latest}
use Rattle.cy_planner.specs.Serves.{Serves}
use Rattle.cy_engine_views.specs.declared.registered.Registered.{Registered}
use Rattle.cy_engine_views.specs.Upkeep.{Rests, held, held_in, network_of}
use Rattle.cy_engine_views.proofs.Making.{held_made, stand_made}
use Rattle.cy_engine_views.proofs.Named.{not_registered, registered_at}
use Rattle.cy_engine_views.proofs.views.Views.make.Goals as goal
use Rattle.cy_engine_views.proofs.views.Views.make.Goals.{In_ok-insert}

-- what is registered
abbrev view : In_ok-insert → Registered
view c = record { rows = c.in_ok-rows.rows; made = c.args.made; feed = c.new-feed.result; steps = 0; prepared = false; change = None }

-- the new entry goes last
pushed : (c : In_ok-insert) → c.insert.new.self.entries ≡ c.args.self.now.registered.entries ++ (c.in_ok-name.name, view c) ∷ []
pushed c =
    let absent = subst (λ (n : List ℕ). registered_at n c.args.self.now.registered.entries ≡ None) (sym c.in_ok-name.ensures.ok) (not_registered c.args.name.now c.args.self.now.registered.entries c.requires.new) in
    c.in_ok-insert.ensures.entries ∙ insert_entry-new string_eq c.args.self.now.registered c.in_ok-name.name (view c) absent

pub returns-clause-made : goal.returns-clause-made
returns-clause-made c =
    let o = (goal.at.returns-clause-made c).In_ok-insert in
    let rows = c.in_ok-rows.rows in
    let query = c.in_ok-rows.ensures.query in (
      (held (c.in_ok-name.name, view o)).plan,
      subst (λ (q : coded.Statement). Serves (network_of rows).plan (statement_of q)) query c.in_ok-rows.ensures.stands.serves,
      held_made c.args.self.now (record c.args.self.now { registered = c.insert.new.self }) c.args.name.now c.in_ok-name.name (view o) c.in_ok-name.ensures.ok (pushed o)
          ∙ (λ i. held_in c.args.self.now ++ (record {
            name = c.args.name.now;
            query = query i;
            plan = (held (c.in_ok-name.name, view o)).plan;
            made = c.args.made;
            feed = (c.new-feed.ensures i).history;
            steps = 0;
          }) ∷ []),
    )

pub returns-clause-stand : goal.returns-clause-stand
returns-clause-stand c = λ tick stand le.
    let o = (goal.at.returns-clause-stand c).In_ok-insert in
    let graph = c.args.store.now.graph.now.content in
    let rests : Rests (view o) graph c.args.made = record {
      rows = c.in_ok-rows.ensures.stands;
      unprepared = refl;
      idle = refl;
      in_time = subst (λ (f : Kept). latest f.history.base f.history.entries ≤ c.args.made) (sym c.new-feed.ensures) (omega arith);
    } in
    stand_made c.args.self.now (record c.args.self.now { registered = c.insert.new.self }) c.args.name.now c.in_ok-name.name (view o) c.in_ok-name.ensures.ok (pushed o) graph tick c.args.made le c.requires.new c.requires.few stand rests
