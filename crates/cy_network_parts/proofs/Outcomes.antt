-- What follows for an outcome from what is known of it.
use Rattle.std.specs.Prelude.{Result, Ok, Err, IfOk, IfErr, OnOk}

pub if_ok_from : {T E : Type 0} (P : T → Type 0) (r : Result T E) → ((x : T) → P x) → IfOk r P
if_ok_from P (Ok x) each = each x
if_ok_from P (Err e) each = tt

pub if_ok_more : {T E : Type 0} (D P : T → Type 0) (r : Result T E) → IfOk r D → ((x : T) → D x → P x) → IfOk r P
if_ok_more D P (Ok x) d each = each x d
if_ok_more D P (Err e) d each = tt

pub if_ok_two : {T E : Type 0} (D B P : T → Type 0) (r : Result T E) → IfOk r D → IfOk r B → ((x : T) → D x → B x → P x) → IfOk r P
if_ok_two D B P (Ok x) d b each = each x d b
if_ok_two D B P (Err e) d b each = tt

pub if_ok_three : {T E : Type 0} (D B P : T → Type 0) (S : Type 0) (r : Result T E) → IfOk r D → OnOk r S → IfOk r B → ((x : T) → D x → S → B x → P x) → IfOk r P
if_ok_three D B P S (Ok x) d s b each = each x d s b
if_ok_three D B P S (Err e) d s b each = tt

pub if_ok_four : {T E : Type 0} (D A C B P : T → Type 0) (r : Result T E) → IfOk r D → IfOk r A → IfOk r C → IfOk r B → ((x : T) → D x → A x → C x → B x → P x) → IfOk r P
if_ok_four D A C B P (Ok x) d a c b each = each x d a c b
if_ok_four D A C B P (Err e) d a c b each = tt

pub if_err_more : {T E : Type 0} (D P : E → Type 0) (r : Result T E) → IfErr r D → ((e : E) → D e → P e) → IfErr r P
if_err_more D P (Ok x) d each = tt
if_err_more D P (Err e) d each = each e d

pub if_ok_five : {T E : Type 0} (D A C F B P : T → Type 0) (r : Result T E) → IfOk r D → IfOk r A → IfOk r C → IfOk r F → IfOk r B → ((x : T) → D x → A x → C x → F x → B x → P x) → IfOk r P
if_ok_five D A C F B P (Ok x) d a c f b each = each x d a c f b
if_ok_five D A C F B P (Err e) d a c f b each = tt
