-- An account's runs, read and written one at a time, each by its line.
use Rattle.std.proofs.Common.{◌≡◌, ◌∙◌, ◌+◌, ℕ, List, [], ◌∷◌, ◌++◌, flat_map, Option, Some, None, Result, Ok, Err, refl, ap, sym, subst, inr}
use Rattle.std.specs.Prelude.{⊤}
use Rattle.std.specs.FinMap.{get}
use Rattle.std.specs.Io.KnownBytes.{Appends, Keeps}
use Rattle.goo_files_streams.specs.Streams.{AppendsPrefix}
use Rattle.goo_files_streams.proofs.AppendsFacts.{appends-more, appends-none, appends-kept, prefix-more, prefix-front, prefix-whole}
use Rattle.goo_types.specs.declared.piece.Piece.{Piece}
use Rattle.goo_spec.specs.Sound.{IsSound}
use Rattle.goo_spec.specs.State.{State}
use Rattle.goo_ranges_rows.specs.Rows.{AreRowsOf}
use Rattle.goo_core_shelf.specs.Shelf.{Moment, Looks, IsReady}
use Rattle.goo_spec_runs.specs.NextRun.{from_of, BeginsFrom}
use Rattle.goo_spec_runs.proofs.Walking.{IsWalking, walk_start, walk_on, walk_end}
use Rattle.goo_core_reads.specs.Reads.{kept_where, names}
use Rattle.goo_core_reads.specs.declared.denial.Denial.{Denial}
use Rattle.goo_core_reads.specs.declared.denial.Denial.TheVariants as denial
use Rattle.goo_types.specs.declared.fault.Fault.TheVariants as fault
use Rattle.goo_core_shelf.proofs.Looking.{still, looked_as}
use Rattle.goo_core_reads.specs.Ahead.{IsSeen}
use Rattle.goo_core_reads.specs.declared.run_place.RunPlace.{RunPlace}
use Rattle.goo_types.specs.declared.fault.Fault.{Fault}
use Rattle.goo_core_reads.proofs.Naming.{some_runs}
use Rattle.goo_registry_reads.specs.AccountReads.{IsNextRunFound, IsRunRead}
use Rattle.goo_registry.specs.Shown.{split_denial}
use Rattle.goo_registry.specs.declared.read_fault.ReadFault.{ReadFault}
use Rattle.goo_registry.specs.declared.read_fault.ReadFault.TheVariants.{NotAllowed, Unknown, Store, Memory}
use Rattle.goo_files.specs.Lines.{AreLines, IsRowFault}
use Rattle.goo_files.specs.Faults.{of_read}
use Rattle.goo_files.specs.Texts.{AreRunsNaming}
use Rattle.goo_files.specs.Writes.{Writes, Began}
use Rattle.goo_files.specs.declared.text_fault.ShowFault.{ShowFault}
use Rattle.goo_files.specs.declared.text_fault.ShowFault.TheVariants as text
use Rattle.goo_files.proofs.Chaining.{chain_ok, chain_err}
use Rattle.std.proofs.lemmas.List.Concat.{flat_map-append}
use Rattle.goo_files.proofs.LineFacts.{lines-last}

-- there was no room after a look-up that was answered
pub full : (a b : Moment) (u : Unit {0}) → Looks a b (Ok u) (λ (u : Unit {0}). ⊤) → Looks {T = Unit {0}} a b (Err fault.Memory) (λ u. ⊤)
full a b u look = record {
  found = λ none. tt;
  same = look.same;
  rows_same = look.rows_same;
  defects_stay = look.defects_stay;
  corruptions_stay = look.corruptions_stay;
  kept = look.kept;
  told = look.told;
  works = tt;
  stays = look.stays;
  crash = look.crash;
}

-- the registry is well as long as there is no defect
pub record IsWell (m : Moment) : Type 0 where
  pub sound : m.defects ≡ 0 → IsSound m.state
  pub rows : m.defects ≡ 0 → AreRowsOf m.state.at m.rows

-- what is found after what was seen of the rows ahead is right
found_so : (m : Moment) (account : ℕ) (place : RunPlace) (r : Result (Option Piece) Denial) → IsSeen account place.after m.rows place.ahead → IsRunRead m account place r → IsNextRunFound m.state account place.after r
found_so m account place (Ok found) seen is = is seen
found_so m account place (Err why) seen is = is

pub found_after : (a b : Moment) (account : ℕ) (place : RunPlace) (r : Result (Result (Option Piece) Denial) Fault) → (a.defects ≡ 0 → IsSeen account place.after a.rows place.ahead)
    → Looks a b r (IsRunRead a account place) → Looks a b r (IsNextRunFound a.state account place.after)
found_after a b account place r seen look = looked_as a b r (IsRunRead a account place) (IsNextRunFound a.state account place.after) look (λ none x is. found_so a account place x (seen none) is)

-- what was seen after a run still is
pub seen_on : (a b : Moment) (account last : ℕ) (after : Option ℕ) (ahead : Option Piece) → after ≡ Some last → (b.defects ≡ 0 → b.rows ≡ a.rows) → (b.defects ≡ 0 → IsSeen account (Some last) a.rows ahead) → b.defects ≡ 0 → IsSeen account after b.rows ahead
seen_on a b account last after ahead is same seen none = subst (λ rows. IsSeen account after rows ahead) (sym (same none)) (subst (λ o. IsSeen account o a.rows ahead) (sym is) (seen none))

-- a line a run, and a sum over the runs
module _ {T : Type 0} (line : Piece → List ℕ) (sum : List Piece → T) where
  -- some of the runs were written, and the others are those from a number on
  pub record IsBegun (s : State) (account from : ℕ) (total : T) (before at : Option (List ℕ)) : Type 0 where
    pub all : List Piece
    pub are_runs : AreRunsNaming s account all
    pub done : List Piece
    pub walk : IsWalking (kept_where (names account) (get s.at)) all from done
    pub written : Appends before at (flat_map line done)
    pub summed : total ≡ sum done

  pub record IsGoing (old mid : Moment) (before at : Option (List ℕ)) (account from : ℕ) (total : T) : Type 0 where
    pub looks : Looks old mid (Ok tt) (λ (u : Unit {0}). ⊤)
    pub begun : mid.defects ≡ 0 → IsBegun old.state account from total before at

  pub going_start : (m : Moment) (before : Option (List ℕ)) (account : ℕ) → IsReady m → IsWell m → IsGoing m m before before account 0 (sum [])
  going_start m before account ready well = record {
    looks = still m tt (λ (u : Unit {0}). ⊤) ready (λ none. tt);
    begun = λ none.
        let all = some_runs m.state m.rows account (well.rows none) (well.sound none) in
        record { all = all.0; are_runs = all.1; done = []; walk = walk_start (kept_where (names account) (get m.state.at)) all.0 all.1; written = appends-none before; summed = refl };
  }

  kept_none : (a : Option (List ℕ)) → Keeps a a
  kept_none None = tt
  kept_none (Some a) = refl

  -- what was found is said of the first state as well
  found_at : (s t : State) (account : ℕ) (after : Option ℕ) (r : Result (Option Piece) Denial) → s ≡ t → IsNextRunFound s account after r → IsNextRunFound t account after r
  found_at s t account after r same found = subst (λ (u : State). IsNextRunFound u account after r) same found

  module _ (old mid new : Moment) (before at : Option (List ℕ)) (account : ℕ) (after : Option ℕ) (total : T) (going : IsGoing old mid before at account (from_of after) total) where
    begun_run : (more : T → Piece → T) → ((ps : List Piece) (p : Piece) → sum (ps ++ p ∷ []) ≡ more (sum ps) p) → (later : Option (List ℕ)) (p : Piece) → BeginsFrom (from_of after) p → IsNextRunFound old.state account after (Ok (Some p)) → Appends at later (line p) → IsBegun old.state account (from_of after) total before at
        → IsBegun old.state account (p.last + 1) (more total p) before later
    begun_run more adds later p begins found wrote b = record {
      all = b.all;
      are_runs = b.are_runs;
      done = b.done ++ p ∷ [];
      walk = walk_on (kept_where (names account) (get old.state.at)) b.all (from_of after) b.done p begins b.walk found;
      written = subst (Appends before later) (sym (lines-last line b.done p)) (appends-more before at later (flat_map line b.done) (line p) b.written wrote);
      summed = ap (λ t. more t p) b.summed ∙ sym (adds b.done p);
    }

    -- one more run was written
    pub going_on : (more : T → Piece → T) → ((ps : List Piece) (p : Piece) → sum (ps ++ p ∷ []) ≡ more (sum ps) p) → (later : Option (List ℕ)) (p : Piece) → BeginsFrom (from_of after) p → Looks mid new (Ok (Ok (Some p))) (IsNextRunFound mid.state account after) → Appends at later (line p)
        → IsGoing old new before later account (p.last + 1) (more total p)
    going_on more adds later p begins look wrote = record {
      looks = chain_ok old mid new tt (λ (u : Unit {0}). ⊤) going.looks (Ok (Some p)) (IsNextRunFound mid.state account after) tt look;
      begun = λ none.
          let sure = look.defects_stay none in
          begun_run more adds later p begins (found_at mid.state old.state account after (Ok (Some p)) (going.looks.same sure) (look.found none)) wrote (going.begun sure);
    }

    -- all were
    pub going_ends : Looks mid new (Ok (Ok None)) (IsNextRunFound mid.state account after) → Writes old new before at (Ok total) None (AreLines line sum old.state account)
    going_ends look = record {
      looks = chain_ok old mid new tt (λ (u : Unit {0}). ⊤) going.looks (Ok None) (IsNextRunFound mid.state account after) tt look;
      shown = λ none. refl;
      whole = λ none.
          let sure = look.defects_stay none in
          let b = going.begun sure in
          let found = found_at mid.state old.state account after (Ok None) (going.looks.same sure) (look.found none) in
          let same : b.all ≡ b.done = walk_end (kept_where (names account) (get old.state.at)) b.all (from_of after) b.done b.walk found in
          (flat_map line b.all, record { runs = b.all; are_runs = b.are_runs; is = refl; summed = b.summed ∙ ap sum (sym same) }, subst (λ l. Appends before at (flat_map line l)) (sym same) b.written);
      denied = λ none. tt;
      silent = λ none. tt;
      unseen = λ late. tt;
      begun = λ late none. tt;
    }

    -- the lines so far are a beginning of all
    begun_prefix : (later : Option (List ℕ)) → IsBegun old.state account (from_of after) total before at → Keeps at later → Began before later (λ t. (c : T) × AreLines line sum old.state account c t)
    begun_prefix later b kept =
        inr (
          flat_map line b.all,
          (sum b.all, record { runs = b.all; are_runs = b.are_runs; is = refl; summed = refl }),
          subst (AppendsPrefix before later) (sym (ap (flat_map line) b.walk.order ∙ flat_map-append line b.done b.walk.rest))
              (prefix-front before later (flat_map line b.done) (flat_map line b.walk.rest) (prefix-whole before later (flat_map line b.done) (appends-kept before at later (flat_map line b.done) b.written kept))),
        )

    -- and so they are with a beginning of the next line
    begun_part : (later : Option (List ℕ)) (p : Piece) → BeginsFrom (from_of after) p → IsNextRunFound old.state account after (Ok (Some p)) → IsBegun old.state account (from_of after) total before at → AppendsPrefix at later (line p)
        → Began before later (λ t. (c : T) × AreLines line sum old.state account c t)
    begun_part later p begins found b part =
        let on = walk_on (kept_where (names account) (get old.state.at)) b.all (from_of after) b.done p begins b.walk found in
        let lines : flat_map line b.all ≡ (flat_map line b.done ++ line p) ++ flat_map line on.rest =
        ap (flat_map line) on.order ∙ flat_map-append line (b.done ++ p ∷ []) on.rest ∙ ap (λ t. t ++ flat_map line on.rest) (lines-last line b.done p) in
        inr (
          flat_map line b.all,
          (sum b.all, record { runs = b.all; are_runs = b.are_runs; is = refl; summed = refl }),
          subst (AppendsPrefix before later) (sym lines) (prefix-front before later (flat_map line b.done ++ line p) (flat_map line on.rest) (prefix-more before at later (flat_map line b.done) (line p) b.written part)),
        )

    -- the writer failed
    pub going_cut : (later : Option (List ℕ)) (p : Piece) → BeginsFrom (from_of after) p → Looks mid new (Ok (Ok (Some p))) (IsNextRunFound mid.state account after) → AppendsPrefix at later (line p)
        → Writes {T = T} old new before later (Err text.Write) None (AreLines line sum old.state account)
    going_cut later p begins look part = record {
      looks = chain_ok old mid new tt (λ (u : Unit {0}). ⊤) going.looks (Ok (Some p)) (IsNextRunFound mid.state account after) tt look;
      shown = λ none. tt;
      whole = λ none. tt;
      denied = λ none. refl;
      silent = λ none off. absurd off;
      unseen = λ late. tt;
      begun = λ late none off.
          let sure = look.works late in
          let was = look.defects_stay sure in
          begun_part later p begins (found_at mid.state old.state account after (Ok (Some p)) (going.looks.same was) (look.found sure)) (going.begun was) part;
    }

    -- what keeps the records failed
    pub going_fails : (fault : ReadFault) → Looks mid new (split_denial {T = Option Piece} (Err fault)) (IsNextRunFound mid.state account after)
        → Writes {T = T} old new before at (Err (of_read fault)) None (AreLines line sum old.state account)
    going_fails NotAllowed look = record {
      looks = chain_ok old mid new tt (λ (u : Unit {0}). ⊤) going.looks (Err denial.NotAllowed) (IsNextRunFound mid.state account after) tt look;
      shown = λ none. tt;
      whole = λ none. tt;
      denied = λ none. absurd (look.found none);
      silent = λ none off. absurd (look.found none);
      unseen = λ late. tt;
      begun = λ late none off. absurd off;
    }
    going_fails Unknown look = record {
      looks = chain_ok old mid new tt (λ (u : Unit {0}). ⊤) going.looks (Err denial.Unknown) (IsNextRunFound mid.state account after) tt look;
      shown = λ none. tt;
      whole = λ none. tt;
      denied = λ none. absurd (look.found none);
      silent = λ none off. absurd (look.found none);
      unseen = λ late. tt;
      begun = λ late none off. absurd off;
    }
    going_fails Store look = record {
      looks = chain_err old mid new tt (λ (u : Unit {0}). ⊤) going.looks fault.Store (IsNextRunFound mid.state account after) look;
      shown = λ none. tt;
      whole = λ none. tt;
      denied = λ none. tt;
      silent = λ none off. absurd off;
      unseen = λ late. tt;
      begun = λ late none off. begun_prefix at (going.begun (going.looks.works (look.corruptions_stay late))) (kept_none at);
    }
    going_fails Memory look = record {
      looks = chain_err old mid new tt (λ (u : Unit {0}). ⊤) going.looks fault.Memory (IsNextRunFound mid.state account after) look;
      shown = λ none. tt;
      whole = λ none. tt;
      denied = λ none. tt;
      silent = λ none off. absurd off;
      unseen = λ late. tt;
      begun = λ late none off. begun_prefix at (going.begun (going.looks.works (look.corruptions_stay late))) (kept_none at);
    }

    -- the row wasn't written
    going_full : (later : Option (List ℕ)) (p : Piece) → BeginsFrom (from_of after) p → Looks mid new (Ok (Ok (Some p))) (IsNextRunFound mid.state account after) → AppendsPrefix at later (line p)
        → Writes {T = T} old new before later (Err text.Memory) None (AreLines line sum old.state account)
    going_full later p begins look part =
        let ok = chain_ok {V = Unit {0}} old mid new tt (λ (u : Unit {0}). ⊤) going.looks (Ok (Some p)) (IsNextRunFound mid.state account after) tt look in
        record {
          looks = full old new tt ok;
          shown = λ none. tt;
          whole = λ none. tt;
          denied = λ none. tt;
          silent = λ none off. absurd off;
          unseen = λ late. tt;
          begun = λ late none off.
              let sure = look.works late in
              let was = look.defects_stay sure in
              begun_part later p begins (found_at mid.state old.state account after (Ok (Some p)) (going.looks.same was) (look.found sure)) (going.begun was) part;
        }

    pub going_broken : (later : Option (List ℕ)) (p : Piece) (f : ShowFault) → IsRowFault f → BeginsFrom (from_of after) p → Looks mid new (Ok (Ok (Some p))) (IsNextRunFound mid.state account after) → AppendsPrefix at later (line p)
        → Writes {T = T} old new before later (Err f) None (AreLines line sum old.state account)
    going_broken later p text.NotAllowed is begins look part = absurd is
    going_broken later p text.Unknown is begins look part = absurd is
    going_broken later p text.Write is begins look part = going_cut later p begins look part
    going_broken later p text.Store is begins look part = absurd is
    going_broken later p text.Memory is begins look part = going_full later p begins look part
