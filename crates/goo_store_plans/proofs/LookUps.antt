-- Look-ups in the tables, joined.
use Rattle.std.proofs.Common.{Ok, Err, Result, IfOk, IsErr, OnOk, refl, arith}
use Rattle.sqlite.specs.State.{State}
use Rattle.sqlite.specs.declared.error.Error.{Error}
use Rattle.goo_tables_rows.specs.Rows.{Tables}
use Rattle.goo_tables_rows.specs.Stands.{Stands, Looks}
use Rattle.goo_tables_rows.proofs.Inside.{stays}
use Rattle.goo_tables_rows.proofs.Results.{if_ok}
use Rattle.goo_store_values.specs.declared.statement_fault.StatementFault.{StatementFault}
use Rattle.goo_store_plans.specs.LookingUp.{LooksUp}
use Rattle.goo_store_values.specs.Passing.{Passes}
use Rattle.goo_store_plans.proofs.Gathered.{passed, weaker, works_passed, gathers_failed, gathers_then, when_ok}

-- one statement, and what is read of what it found
pub looked_up : (old new : State) {T : Type 0} (r : Result T Error) (right : Tables → T → Type 0) → Looks old new r right → {U : Type 0} (R : T → U → Type 0) (P : Tables → U → Type 0) (read : Result U StatementFault) → Passes r read R
    → ((t : Tables) → Stands old.now t → (x : T) (y : U) → right t x → R x y → P t y) → LooksUp old new read P
looked_up old new r right looks R P read passes says = record {
  found = λ clean live settled t it. passed (right t) (P t) R r read passes (looks.found clean t it) (says t it);
  clean = looks.clean;
  works = weaker _ _ read (λ live clean was. live clean) (works_passed _ R r read passes looks.works);
  was_open = looks.was_open;
  rests = λ clean it. looks.rests clean it.0 it.1;
  crash = λ clean live it. looks.crash it.0;
}

pub on : {U : Type 0} {A B : Type 0} (r : Result U StatementFault) → OnOk r A → (A → B) → OnOk r B
on (Ok x) a f = f a
on (Err e) a f = tt

-- what holds wherever a call succeeds
pub on_if : {U : Type 0} {A : Type 0} {P : U → Type 0} (r : Result U StatementFault) → OnOk r A → ((x : U) → A → P x) → IfOk r P
on_if (Ok x) a f = f x a
on_if (Err e) a f = tt

-- nothing is looked up
pub looks_none : {U : Type 0} (old : State) (r : Result U StatementFault) (P : Tables → U → Type 0) → ((t : Tables) → Stands old.now t → IfOk r (P t)) → LooksUp old old r P
looks_none old r P says = record {
  found = λ clean live settled t it. says t it;
  clean = omega arith;
  works = when_ok r (λ clean live. live);
  was_open = λ clean live. live;
  rests = λ clean it. record { was_open = λ live. live; now = λ live. refl; committed = λ live. refl };
  crash = λ clean live it. stays old;
}

-- an error after whatever was looked up
pub looks_failed : {T U : Type 0} (old new : State) (q : Result T StatementFault) (r : Result U StatementFault) (P : Tables → T → Type 0) (Q : Tables → U → Type 0) → IsErr r → LooksUp old new q P → LooksUp old new r Q
looks_failed old new q r P Q bad it = gathers_failed old new q r P Q it bad

-- something is made of what was found
pub looks_made : {T U : Type 0} (old new : State) (x : T) (r : Result U StatementFault) (P : Tables → T → Type 0) (Q : Tables → U → Type 0) → LooksUp old new (Ok x) P → ((t : Tables) → Stands old.now t → P t x → IfOk r (Q t)) → LooksUp old new r Q
looks_made old new x r P Q one made = record {
  found = λ clean live settled t it. made t it (one.found clean live settled t it);
  clean = one.clean;
  works = when_ok r one.works;
  was_open = one.was_open;
  rests = one.rests;
  crash = one.crash;
}

-- one look-up after another
pub looks_then : {T U : Type 0} (old mid new : State) (x : T) (r : Result U StatementFault) (First : Tables → T → Type 0) (Next : Tables → U → Type 0) → LooksUp old mid (Ok x) First → LooksUp mid new r Next
    → LooksUp old new r (λ t y. First t x × Next t y)
looks_then old mid new x r First Next one two = gathers_then old mid new x r First Next one two (λ t y. First t x × Next t y) (λ t y first next. (first, next))

-- what was found says more
pub looks_so : {T : Type 0} (old new : State) (r : Result T StatementFault) (P Q : Tables → T → Type 0) → LooksUp old new r P → ((t : Tables) → Stands old.now t → (x : T) → P t x → Q t x) → LooksUp old new r Q
looks_so old new r P Q one says = record {
  found = λ clean live settled t it. if_ok r (one.found clean live settled t it) (says t it);
  clean = one.clean;
  works = one.works;
  was_open = one.was_open;
  rests = one.rests;
  crash = one.crash;
}
