-- What becomes of the upkeep of views, by the answer.
use Rattle.std.proofs.Common.{◌≡◌, Ok, Err, refl, sym, subst}
use Rattle.cy_engine_lines.specs.declared.faults.Fault.{Fault}
use Rattle.cy_engine_lines.specs.declared.faults.Fault.TheVariants as fault
use Rattle.cy_engine_lines.specs.declared.replies.Reply.{Reply}
use Rattle.cy_engine_lines.specs.EngineStep.{Answer}
use Rattle.cy_engine_lines.specs.KeptStep.{Keeps, KeptState}

-- where more says that rows are too many
pub keeps_more : (few more : Type 0) → (few → more) → (answer : Answer) (old new : KeptState) → Keeps few answer old new → Keeps more answer old new
keeps_more few more says (Err fault.TooManyRows) old new keeps = record { many = says keeps.many; same = keeps.same }
keeps_more few more says _ old new keeps = keeps

-- where a line is refused
pub keeps_refused : (too_many : Type 0) (why : Fault) (old new : KeptState) → new.upkeep ≡ old.upkeep → (why ≡ fault.TooManyRows → too_many) → Keeps too_many (Err why) old new
keeps_refused too_many fault.TooManyRows old new same many = record { many = many refl; same = same }
keeps_refused too_many _ old new same many = same

-- where a reply is this one
pub keeps_said : (too_many : Type 0) (given said : Reply) (old new : KeptState) → given ≡ said → Keeps too_many (Ok said) old new → Keeps too_many (Ok given) old new
keeps_said too_many given said old new is keeps = subst (λ (r : Reply). Keeps too_many (Ok r) old new) (sym is) keeps
