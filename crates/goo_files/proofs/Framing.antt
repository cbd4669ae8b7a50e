-- A text of an account: what stands before its runs, a line for each of them, and what stands after.
use Rattle.std.proofs.Common.{◌≡◌, ℕ, List, ◌++◌, flat_map, Option, None, Ok, Err, subst, inl, inr}
use Rattle.std.specs.Prelude.{⊤}
use Rattle.std.specs.FinMap.{get}
use Rattle.std.specs.Io.KnownBytes.{Appends}
use Rattle.goo_files_streams.specs.Streams.{AppendsPrefix}
use Rattle.goo_files_streams.proofs.AppendsFacts.{appends-more, appends-kept, prefix-more, prefix-front, prefix-whole}
use Rattle.goo_types.specs.declared.fault.Fault.TheVariants as fault
use Rattle.goo_types.specs.declared.piece.Piece.{Piece}
use Rattle.goo_spec.specs.State.{State}
use Rattle.goo_core_shelf.specs.Shelf.{Moment, Looks}
use Rattle.goo_core_reads.proofs.Naming.{some_runs}
use Rattle.goo_registry.specs.Reads.{account_denial}
use Rattle.goo_registry_reads.specs.AccountReads.{IsHeadingShown}
use Rattle.goo_registry_reads.specs.declared.heading.Heading.{Heading}
use Rattle.goo_files.specs.Lines.{AreLines, IsRowFault}
use Rattle.goo_files.specs.Texts.{AreRunsNaming}
use Rattle.goo_files.specs.Writes.{Writes, Began}
use Rattle.goo_files.specs.declared.text_fault.ShowFault.{ShowFault}
use Rattle.goo_files.specs.declared.text_fault.ShowFault.TheVariants as text
use Rattle.goo_files.proofs.Chaining.{chain_ok, chain_err, plain_ok, none_denied}
use Rattle.goo_files.proofs.Lining.{IsWell, full}

module _ {T : Type 0} (line : Piece → List ℕ) (sum : List Piece → T) (foot : T → List ℕ) (Right : List ℕ → Type 0) where
  abbrev pub text_with : List ℕ → List Piece → List ℕ
  text_with head runs = head ++ (flat_map line runs ++ foot (sum runs))

  abbrev pub Texts : Unit {0} → List ℕ → Type 0
  Texts u t = Right t

  module _ (old first : Moment) (before mid : Option (List ℕ)) (caller : List ℕ) (account : ℕ) (h : Heading) (look : Looks old first (Ok (Ok h)) (IsHeadingShown old.state caller account)) (well : IsWell old) (head : List ℕ) (right : first.defects ≡ 0 → (runs : List Piece) → AreRunsNaming old.state account runs → Right (text_with head runs)) where
    denial_is : first.defects ≡ 0 → account_denial caller (get old.state.accounts account) ≡ None
    denial_is sure = (look.found sure).0

    -- a beginning of what stands before the runs
    begun_head : (at : Option (List ℕ)) → first.defects ≡ 0 → AppendsPrefix before at head → Began before at (λ t. (u : Unit {0}) × Texts u t)
    begun_head at sure part =
        let was = look.defects_stay sure in
        let all = some_runs old.state old.rows account (well.rows was) (well.sound was) in
        inr (text_with head all.0, (tt, right sure all.0 all.1), prefix-front before at head _ part)

    -- that wasn't written whole
    pub head_broken : (f : ShowFault) → IsRowFault f → AppendsPrefix before mid head → Writes old first before mid (Err f) (account_denial caller (get old.state.accounts account)) Texts
    head_broken text.NotAllowed is part = absurd is
    head_broken text.Unknown is part = absurd is
    head_broken text.Store is part = absurd is
    head_broken text.Write is part = record {
      looks = plain_ok old first (Ok h) (IsHeadingShown old.state caller account) tt look;
      shown = λ none. tt;
      whole = λ none. tt;
      denied = λ none. denial_is none;
      silent = λ none off. absurd off;
      unseen = λ late. none_denied (account_denial caller (get old.state.accounts account)) _ _ (denial_is (look.works late));
      begun = λ late none off. begun_head mid (look.works late) part;
    }
    head_broken text.Memory is part = record {
      looks = full old first tt (plain_ok old first (Ok h) (IsHeadingShown old.state caller account) tt look);
      shown = λ none. tt;
      whole = λ none. tt;
      denied = λ none. tt;
      silent = λ none off. absurd off;
      unseen = λ late. none_denied (account_denial caller (get old.state.accounts account)) _ _ (denial_is (look.works late));
      begun = λ late none off. begun_head mid (look.works late) part;
    }

    module _ (new : Moment) (at : Option (List ℕ)) (wrote : Appends before mid head) where
      -- a beginning of the lines after it
      begun_lines : first.defects ≡ 0 → Began mid at (λ t. (c : T) × AreLines line sum first.state account c t) → Began before at (λ t. (u : Unit {0}) × Texts u t)
      begun_lines sure (inl kept) = begun_head at sure (prefix-whole before at head (appends-kept before mid at head wrote kept))
      begun_lines sure (inr (t, (c, lines), part)) =
          let are : AreRunsNaming old.state account lines.runs = subst (λ (s : State). AreRunsNaming s account lines.runs) (look.same sure) lines.are_runs in
          inr (text_with head lines.runs, (tt, right sure lines.runs are), prefix-more before mid at head _ wrote (prefix-front mid at (flat_map line lines.runs) _ (subst (AppendsPrefix mid at) lines.is part)))

      -- the lines broke off
      pub lines_cut : (f : ShowFault) → Writes {T = T} first new mid at (Err f) None (AreLines line sum first.state account) → Writes old new before at (Err f) (account_denial caller (get old.state.accounts account)) Texts
      lines_cut text.NotAllowed w = record {
        looks = chain_ok old first new (Ok h) (IsHeadingShown old.state caller account) look tt (λ u. ⊤) tt w.looks;
        shown = λ none. tt;
        whole = λ none. tt;
        denied = λ none. let clash = w.denied none in cc;
        silent = λ none off. let clash = w.denied none in cc;
        unseen = λ late. none_denied (account_denial caller (get old.state.accounts account)) _ _ (denial_is (look.works (w.looks.corruptions_stay late)));
        begun = λ late none off. absurd off;
      }
      lines_cut text.Unknown w = record {
        looks = chain_ok old first new (Ok h) (IsHeadingShown old.state caller account) look tt (λ u. ⊤) tt w.looks;
        shown = λ none. tt;
        whole = λ none. tt;
        denied = λ none. let clash = w.denied none in cc;
        silent = λ none off. let clash = w.denied none in cc;
        unseen = λ late. none_denied (account_denial caller (get old.state.accounts account)) _ _ (denial_is (look.works (w.looks.corruptions_stay late)));
        begun = λ late none off. absurd off;
      }
      lines_cut text.Write w = record {
        looks = chain_ok old first new (Ok h) (IsHeadingShown old.state caller account) look tt (λ u. ⊤) tt w.looks;
        shown = λ none. tt;
        whole = λ none. tt;
        denied = λ none. denial_is (w.looks.defects_stay none);
        silent = λ none off. absurd off;
        unseen = λ late. none_denied (account_denial caller (get old.state.accounts account)) _ _ (denial_is (look.works (w.looks.corruptions_stay late)));
        begun = λ late none off. let sure = look.works (w.looks.corruptions_stay late) in begun_lines sure (w.begun late sure tt);
      }
      lines_cut text.Store w = record {
        looks = chain_err old first new (Ok h) (IsHeadingShown old.state caller account) look fault.Store (λ u. ⊤) w.looks;
        shown = λ none. tt;
        whole = λ none. tt;
        denied = λ none. tt;
        silent = λ none off. absurd off;
        unseen = λ late. none_denied (account_denial caller (get old.state.accounts account)) _ _ (denial_is (look.works (w.looks.corruptions_stay late)));
        begun = λ late none off. let sure = look.works (w.looks.corruptions_stay late) in begun_lines sure (w.begun late sure tt);
      }
      lines_cut text.Memory w = record {
        looks = chain_err old first new (Ok h) (IsHeadingShown old.state caller account) look fault.Memory (λ u. ⊤) w.looks;
        shown = λ none. tt;
        whole = λ none. tt;
        denied = λ none. tt;
        silent = λ none off. absurd off;
        unseen = λ late. none_denied (account_denial caller (get old.state.accounts account)) _ _ (denial_is (look.works (w.looks.corruptions_stay late)));
        begun = λ late none off. let sure = look.works (w.looks.corruptions_stay late) in begun_lines sure (w.begun late sure tt);
      }

      module _ (end : Option (List ℕ)) (total : T) (w : Writes {T = T} first new mid at (Ok total) None (AreLines line sum first.state account)) where
        -- the whole text, from the lines that were written
        whole_by : (Q : List ℕ → Type 0) → new.defects ≡ 0 → ((runs : List Piece) → total ≡ sum runs → Appends mid at (flat_map line runs) → Q (text_with head runs)) → (t : List ℕ) × Right t × Q t
        whole_by Q none so =
            let sure = w.looks.defects_stay none in
            let done = w.whole none in
            let lines = done.1 in
            let are : AreRunsNaming old.state account lines.runs = subst (λ (s : State). AreRunsNaming s account lines.runs) (look.same sure) lines.are_runs in
            (text_with head lines.runs, right sure lines.runs are, so lines.runs lines.summed (subst (Appends mid at) lines.is done.2))

        pub foot_ends : Appends at end (foot total) → Writes old new before end (Ok tt) (account_denial caller (get old.state.accounts account)) Texts
        foot_ends last = record {
          looks = chain_ok old first new (Ok h) (IsHeadingShown old.state caller account) look tt (λ u. ⊤) tt w.looks;
          shown = λ none. denial_is (w.looks.defects_stay none);
          whole = λ none. whole_by (Appends before end) none (λ runs summed lines.
              appends-more before mid end head _ wrote (appends-more mid at end (flat_map line runs) _ lines (subst (λ (c : T). Appends at end (foot c)) summed last)));
          denied = λ none. tt;
          silent = λ none. tt;
          unseen = λ late. none_denied (account_denial caller (get old.state.accounts account)) _ _ (denial_is (look.works (w.looks.corruptions_stay late)));
          begun = λ late none. tt;
        }

        pub foot_cut : AppendsPrefix at end (foot total) → Writes old new before end (Err text.Write) (account_denial caller (get old.state.accounts account)) Texts
        foot_cut part = record {
          looks = chain_ok old first new (Ok h) (IsHeadingShown old.state caller account) look tt (λ u. ⊤) tt w.looks;
          shown = λ none. tt;
          whole = λ none. tt;
          denied = λ none. denial_is (w.looks.defects_stay none);
          silent = λ none off. absurd off;
          unseen = λ late. none_denied (account_denial caller (get old.state.accounts account)) _ _ (denial_is (look.works (w.looks.corruptions_stay late)));
          begun = λ late none off.
              let whole = whole_by (AppendsPrefix before end) (w.looks.works late) (λ runs summed lines.
              prefix-more before mid end head _ wrote (prefix-more mid at end (flat_map line runs) _ lines (subst (λ (c : T). AppendsPrefix at end (foot c)) summed part))) in
              inr (whole.0, (tt, whole.1), whole.2);
        }
