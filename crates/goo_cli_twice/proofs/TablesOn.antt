-- Rows behind rows.
use Rattle.std.proofs.Common.{◌≡◌, ◌∙◌, ℕ, List, [], ◌∷◌, ◌++◌, append_assoc, append-nil, Option, refl, sym, ap, subst, inl, inr}
use Rattle.std.specs.Prelude.{◌⊎◌}
use Rattle.goo_spec.specs.Checks.{issuer}
use Rattle.goo_spec.specs.State.{State}
use Rattle.goo_files_import.specs.Import.{Imported, importing, nothing_imported, row_result, with_row, with_rows}
use Rattle.goo_files_import.proofs.PromiseFacts.{rows_promised}
use Rattle.goo_files_import.proofs.SentAgain.{table_sent_again}
use Rattle.goo_cli_ending.specs.declared.ending.Ending.{Ending}
use Rattle.goo_cli_texts.specs.Declaring.{DeclaresRows}
use Rattle.goo_cli_twice.specs.Tables.{AreHeld, GoesOn, Rows}

module _ (caller : List ℕ) where
  with-more : (a : Imported) (xs ys : Rows) → with_rows caller a (xs ++ ys) ≡ with_rows caller (with_rows caller a xs) ys
  unfolding with_rows
  with-more a [] ys = refl
  with-more a (x ∷ xs) ys = with-more (with_row caller a x) xs ys

  state_from : (a b : Imported) (ys : Rows) → a.state ≡ b.state → (with_rows caller a ys).state ≡ (with_rows caller b ys).state
  unfolding with_rows
  state_from a b [] is = is
  state_from a b (y ∷ ys) is = state_from (with_row caller a y) (with_row caller b y) ys (ap (λ s. (with_row caller (nothing_imported s) y).state) is)

  lines_from : (a : Imported) (ys : Rows) → (with_rows caller a ys).lines ≡ a.lines ++ (importing a.state caller ys).lines
  unfolding with_rows
  lines_from a [] = sym (append-nil a.lines)
  lines_from a (y ∷ ys) =
      let b = with_row caller (nothing_imported a.state) y in
      lines_from (with_row caller a y) ys
      ∙ append_assoc a.lines (row_result a.state caller y ∷ []) (importing b.state caller ys).lines
      ∙ ap (λ l. a.lines ++ l) (sym (lines_from b ys))

  pub state_on : (s : State) (xs ys : Rows) → (importing s caller (xs ++ ys)).state ≡ (importing (importing s caller xs).state caller ys).state
  state_on s xs ys = ap (λ (a : Imported). a.state) (with-more (nothing_imported s) xs ys) ∙ state_from (importing s caller xs) (nothing_imported (importing s caller xs).state) ys refl

  pub lines_on : (s : State) (xs ys : Rows) → (importing s caller (xs ++ ys)).lines ≡ (importing s caller xs).lines ++ (importing (importing s caller xs).state caller ys).lines
  lines_on s xs ys = ap (λ (a : Imported). a.lines) (with-more (nothing_imported s) xs ys) ∙ lines_from (importing s caller xs) ys

module _ (old : State) (rows upto : Rows) (told : Ending) (had has : Option (List ℕ)) (Holds : State → Type 0) (Finds : State → State → Type 0) (before after : Option (List ℕ)) where
  goes_on_from : (held : Rows) → AreHeld held rows upto → DeclaresRows told (importing old issuer held).state had has Holds Finds before after → GoesOn old rows upto told had has Holds Finds before after
  goes_on_from held are second =
      let mid = (importing old issuer held).state in
      record {
        held = held;
        are = are;
        second = second;
        lines = lines_on issuer old held second.rows;
        holds = subst Holds (sym (state_on issuer old held second.rows)) second.holds;
        promised = rows_promised old issuer (held ++ second.rows);
        found = subst (λ t. Finds (importing old issuer (held ++ second.rows)).state t) (sym (state_on issuer old held second.upto))
            (subst (λ s. Finds s (importing mid issuer second.upto).state) (sym (state_on issuer old held second.rows)) second.found);
        again = λ input first table.
            let all = table_sent_again old issuer input held second.rows first table in
            let same = ap (λ l. (importing mid issuer l).state) all.1 ∙ all.2.state ∙ ap (λ l. (importing old issuer l).state) (sym all.1) in
            (all.0, all.1, all.2, subst Holds same second.holds);
      }

  -- from the one state or the other
  pub goes_on : (middle : State) → (middle ≡ (importing old issuer rows).state) ⊎ (middle ≡ (importing old issuer upto).state) → DeclaresRows told middle had has Holds Finds before after → GoesOn old rows upto told had has Holds Finds before after
  goes_on middle (inl is) second = goes_on_from rows (inl refl) (subst (λ s. DeclaresRows told s had has Holds Finds before after) is second)
  goes_on middle (inr is) second = goes_on_from upto (inr refl) (subst (λ s. DeclaresRows told s had has Holds Finds before after) is second)
