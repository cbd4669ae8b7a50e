-- Calls that gather what the tables show, one after another.
use Rattle.std.proofs.Common.{◌≡◌, IsTrue, sym, ap, subst, ◌∙◌, arith, true≢false, Ok, Err, Result, IfOk, OnOk, IsErr}
use Rattle.sqlite.specs.State.{State, HasCleanDisk}
use Rattle.sqlite.specs.Effect.{Database}
use Rattle.sqlite.specs.declared.error.Error.{Error}
use Rattle.goo_tables_rows.specs.Rows.{Tables}
use Rattle.goo_tables_rows.specs.Stands.{Stands, Looks}
use Rattle.goo_tables_rows.proofs.Inside.{survives_both}
use Rattle.goo_store_plans.specs.LookingUp.{LooksUp, IsOurs}
use Rattle.goo_store_values.specs.Passing.{Passes}
use Rattle.goo_store_values.specs.declared.statement_fault.StatementFault.{StatementFault}

-- ---- one statement, whose rows are read

pub passed : {T U : Type 0} (P : T → Type 0) (Q : U → Type 0) (R : T → U → Type 0) (r : Result T Error) (read : Result U StatementFault) → Passes r read R → IfOk r P → ((x : T) (y : U) → P x → R x y → Q y) → IfOk read Q
passed P Q R (Ok x) (Ok y) passes is says = says x y is passes
passed P Q R r (Err e) passes is says = tt
passed P Q R (Err e) (Ok y) passes is says = absurd (true≢false (sym passes))

pub works_passed : {T U : Type 0} (W : Type 0) (R : T → U → Type 0) (r : Result T Error) (read : Result U StatementFault) → Passes r read R → OnOk r W → OnOk read W
works_passed W R (Ok x) (Ok y) passes works = works
works_passed W R r (Err e) passes works = tt
works_passed W R (Err e) (Ok y) passes works = absurd (true≢false (sym passes))

pub weaker : {T : Type 0} (W V : Type 0) (r : Result T StatementFault) → (W → V) → OnOk r W → OnOk r V
weaker W V (Ok x) f works = f works
weaker W V (Err e) f works = tt

pub gathers_looked : {T U : Type 0} (old new : State) (r : Result T Error) (right : Tables → T → Type 0) (R : T → U → Type 0) (read : Result U StatementFault) (known : Tables → U → Type 0) → Looks old new r right → Passes r read R
    → ((t : Tables) (x : T) (y : U) → right t x → R x y → known t y) → LooksUp old new read known
gathers_looked old new r right R read known looks passes says = record {
  found = λ clean live settled t it. passed (right t) (known t) R r read passes (looks.found clean t it) (says t);
  clean = looks.clean;
  works = weaker _ _ read (λ live clean was. live clean) (works_passed _ R r read passes looks.works);
  was_open = looks.was_open;
  rests = λ clean it. looks.rests clean it.0 it.1;
  crash = λ clean live it. looks.crash it.0;
}

-- ---- one after another

-- what follows a call that fails
pub gathers_failed : {T U : Type 0} (a b : State) (r : Result T StatementFault) (result : Result U StatementFault) (First : Tables → T → Type 0) (Next : Tables → U → Type 0) → LooksUp a b r First → IsErr result → LooksUp a b result Next
gathers_failed {U = U} a b r result First Next one failed = record {
  found = λ clean live settled t it. none_found _ result failed;
  clean = one.clean;
  works = none_works _ result failed;
  was_open = one.was_open;
  rests = one.rests;
  crash = one.crash;
}
  where
    none_found : (P : U → Type 0) (q : Result U StatementFault) → IsErr q → IfOk q P
    none_found P (Ok y) is = absurd (true≢false (sym is))
    none_found P (Err e) is = tt

    none_works : (W : Type 0) (q : Result U StatementFault) → IsErr q → OnOk q W
    none_works W (Ok y) is = absurd (true≢false (sym is))
    none_works W (Err e) is = tt

pub when_ok : {U W : Type 0} (r : Result U StatementFault) → W → OnOk r W
when_ok (Ok y) w = w
when_ok (Err e) w = tt

-- what is made of it with no further call
pub gathers_made : {T U : Type 0} (a b : State) (x : T) (r : Result U StatementFault) (First : Tables → T → Type 0) (Next : Tables → U → Type 0) → LooksUp a b (Ok x) First → ((t : Tables) → First t x → IfOk r (Next t)) → LooksUp a b r Next
gathers_made a b x r First Next one made = record {
  found = λ clean live settled t it. made t (one.found clean live settled t it);
  clean = one.clean;
  works = when_ok r one.works;
  was_open = one.was_open;
  rests = one.rests;
  crash = one.crash;
}

module _ {T U : Type 0} (a b c : State) (x : T) (r : Result U StatementFault) (First : Tables → T → Type 0) (Next : Tables → U → Type 0) (one : LooksUp a b (Ok x) First) (two : LooksUp b c r Next) where
  early : HasCleanDisk c → HasCleanDisk b
  early clean = omega (arith, clean, two.clean)

  -- while the connection is open, the tables are ours again, as they were
  same : HasCleanDisk c → IsOurs a → IsTrue b.is_open → b.now ≡ a.now
  same clean it live = (one.rests (early clean) it).now live

  again : HasCleanDisk c → IsOurs a → IsTrue b.is_open → IsOurs b
  again clean it live =
      let before = one.rests (early clean) it in
      (ap (λ (d : Database). d.schema) (before.now live) ∙ it.0, λ _. before.now live ∙ it.1 (before.was_open live) ∙ sym (before.committed live))

  both : (Both : Tables → U → Type 0) (t : Tables) → IfOk r (Next t) → First t x → ((y : U) → First t x → Next t y → Both t y) → IfOk r (Both t)
  both Both t next first says = go r next
    where
      go : (q : Result U StatementFault) → IfOk q (Next t) → IfOk q (Both t)
      go (Ok y) is = says y first is
      go (Err e) is = tt

  stays : (q : Result U StatementFault) → OnOk q (HasCleanDisk c → IsTrue b.is_open → IsTrue c.is_open) → OnOk q (HasCleanDisk c → IsTrue a.is_open → IsTrue c.is_open)
  stays (Ok y) works = λ clean live. works clean (one.works (early clean) live)
  stays (Err e) works = tt

  pub gathers_then : (Both : Tables → U → Type 0) → ((t : Tables) (y : U) → First t x → Next t y → Both t y) → LooksUp a c r Both
  gathers_then Both says = record {
    found = λ clean live settled t it.
        let mid = two.was_open clean live in
        let ours : IsOurs a = (it.schema, settled) in
        both Both t (two.found clean live (again clean ours mid).1 t (subst (λ (d : Database). Stands d t) (sym (same clean ours mid)) it)) (one.found (early clean) mid settled t it) (says t);
    clean = omega (arith, one.clean, two.clean);
    works = stays r two.works;
    was_open = λ clean live. one.was_open (early clean) (two.was_open clean live);
    rests = λ clean it. record {
      was_open = λ live. one.was_open (early clean) (two.was_open clean live);
      now = λ live. let mid = two.was_open clean live in (two.rests clean (again clean it mid)).now live ∙ same clean it mid;
      committed = λ live. let mid = two.was_open clean live in (two.rests clean (again clean it mid)).committed live ∙ (one.rests (early clean) it).committed mid;
    };
    crash = λ clean live it. let mid = one.works (early clean) live in survives_both a b c (one.crash (early clean) live it) (two.crash clean mid (again clean it mid));
  }
