-- Calls that only read, one after another.
use Rattle.std.proofs.Common.{◌≡◌, ◌≤◌, ◌⊎◌, inl, inr, Ok, Err, Result, false, IfOk, IfErr, OnOk, IsTrue, sym, ap, subst, ◌∙◌, arith, true≢false}
use Rattle.sqlite.specs.State.{State, HasCleanDisk, Survives}
use Rattle.sqlite.specs.Tree.{Trees}
use Rattle.sqlite.specs.Effect.{Database}
use Rattle.sqlite.specs.declared.error.Error.{Error}
use Rattle.goo_tables_rows.specs.Rows.{Tables}
use Rattle.goo_tables_rows.specs.Stands.{Stands, Rests, Looks}
use Rattle.goo_tables_rows.specs.Met.{HasOurTables}
use Rattle.goo_tables_rows.specs.Readable.{is_read_error}
use Rattle.goo_tables_rows.specs.Refused.{IsFault, FailsByFault, FailsOnlyByFault}
use Rattle.goo_tables_rows.specs.First.{ReadsFirst}
use Rattle.goo_store_open.specs.Layout.{HasTables, seen_by}
use Rattle.goo_store_open.specs.Reading.{CanBeRead, IsMet, OnlyReads}
use Rattle.goo_store_open.specs.declared.layout.Layout.{Layout}
use Rattle.goo_store_open.specs.declared.layout.Layout.TheVariants.{First, Ours}

pub no_more : (old new : State) → Survives old new (λ _. ⊥) → HasCleanDisk new → (db : Trees) → new.may_leave db → old.may_leave db
no_more old new s clean db left = elim (s.crash clean db left) [ inl before ↦ before | inr none ↦ absurd none ]

-- what a call showed while it left the connection open
once_open : {T : Type 0} {A : Type 0} (P : T → Type 0) (r : Result T Error) → OnOk r A → (A → IfOk r P) → IfOk r P
once_open P (Ok x) opens shows = shows opens
once_open P (Err e) opens shows = tt

-- one statement on a whole table of ours
pub reads_table : {T : Type 0} (old new : State) (r : Result T Error) (right : Tables → T → Type 0) (Shows : Database → T → Type 0) (P : Tables → Type 0) → Looks old new r right
    → (old.in_transaction ≡ false → new.in_transaction ≡ false) → (HasCleanDisk new → HasOurTables old.now → IfOk r (Shows old.now)) → FailsOnlyByFault old new r P → FailsByFault old new r → ((t : Tables) → CanBeRead t → P t) → OnlyReads Ours old new r Shows
reads_table old new r right Shows P looks outside met readable refused can = record {
  clean = λ h. omega (arith, h, looks.clean);
  outside = outside;
  rests = λ clean it. looks.rests clean it.schema it.settled;
  works = looks.works;
  seen = λ clean it. once_open (Shows old.now) r looks.works (λ opens. met clean (it.ours (looks.was_open clean (opens clean))));
  crash = λ clean it. no_more old new (looks.crash it.schema) clean;
  counts = λ clean it. (looks.crash it.schema).counts;
  limit = λ clean it. (looks.crash it.schema).limit;
  refused = λ clean it unlimited. refused clean it.schema unlimited;
  faulty = λ clean it unlimited t stands reads. readable clean unlimited t stands (can t reads);
}

-- the same of version 1
reads_first : {T : Type 0} (old new : State) (r : Result T Error) (right : Tables → T → Type 0) (Shows : Database → T → Type 0) (P : Tables → Type 0) → ReadsFirst old new r right Shows P → (old.in_transaction ≡ false → new.in_transaction ≡ false)
    → ((db : Database) → IfOk r (Shows db) → IfOk r (Shows (seen_by First db))) → ((t : Tables) → CanBeRead t → P t) → OnlyReads First old new r Shows
reads_first old new r right Shows P reads outside none can = record {
  clean = λ h. omega (arith, h, reads.looks.clean);
  outside = outside;
  rests = λ clean it. reads.looks.rests clean it.schema it.settled;
  works = reads.looks.works;
  seen = λ clean it. none old.now (once_open (Shows old.now) r reads.looks.works (λ opens. reads.met clean (it.ours (reads.looks.was_open clean (opens clean)))));
  crash = λ clean it. no_more old new (reads.looks.crash it.schema) clean;
  counts = λ clean it. (reads.looks.crash it.schema).counts;
  limit = λ clean it. (reads.looks.crash it.schema).limit;
  refused = λ clean it unlimited. reads.refused clean it.schema unlimited;
  faulty = λ clean it unlimited t stands cans. reads.readable clean unlimited t (it.schema, stands) (can t cans);
}

-- the same of both
pub reads_one : {T : Type 0} (layout : Layout) (old new : State) (r : Result T Error) (right : Tables → T → Type 0) (Shows : Database → T → Type 0) (P : Tables → Type 0) → Looks old new r right
    → (old.in_transaction ≡ false → new.in_transaction ≡ false) → (HasCleanDisk new → HasOurTables old.now → IfOk r (Shows old.now)) → FailsOnlyByFault old new r P → FailsByFault old new r → ReadsFirst old new r right Shows P
    → ((db : Database) → IfOk r (Shows db) → IfOk r (Shows (seen_by First db))) → ((t : Tables) → CanBeRead t → P t) → OnlyReads layout old new r Shows
reads_one First old new r right Shows P looks outside met readable refused first none can = reads_first old new r right Shows P first outside none can
reads_one Ours old new r right Shows P looks outside met readable refused first none can = reads_table old new r right Shows P looks outside met readable refused can

-- the tables are met again
met_again : (layout : Layout) (a b : State) → IsTrue b.is_open → Rests a b → IsMet layout a → IsMet layout b
met_again layout a b live h it = record {
  schema = ap (λ (d : Database). d.schema) (h.now live) ∙ it.schema;
  ours = λ _. subst (HasTables layout) (sym (h.now live)) (it.ours (h.was_open live));
  settled = λ _. h.now live ∙ it.settled (h.was_open live) ∙ sym (h.committed live);
}

module _ {T U : Type 0} (layout : Layout) (a b c : State) (x : T) (r : Result U Error) (Early : Database → T → Type 0) (Next : Database → U → Type 0) (one : OnlyReads layout a b (Ok x) Early) (two : OnlyReads layout b c r Next) where
  middle : HasCleanDisk c → IsMet layout a → IsMet layout b
  middle clean it = met_again layout a b (one.works (two.clean clean)) (one.rests (two.clean clean) it) it

  rests : HasCleanDisk c → IsMet layout a → Rests a c
  rests clean it =
      let before = one.rests (two.clean clean) it in
      let after = two.rests clean (middle clean it) in
      record { was_open = λ live. before.was_open (after.was_open live); now = λ live. after.now live ∙ before.now (after.was_open live); committed = λ live. after.committed live ∙ before.committed (after.was_open live) }

  same : HasCleanDisk c → IsMet layout a → b.now ≡ a.now
  same clean it = (one.rests (two.clean clean) it).now (one.works (two.clean clean))

  both : (q : Result U Error) → IfOk q (Next (seen_by layout b.now)) → (b.now ≡ a.now) → Early (seen_by layout a.now) x → IfOk q (λ y. Early (seen_by layout a.now) x × Next (seen_by layout a.now) y)
  both (Ok y) next is first = (first, subst (λ (d : Database). Next (seen_by layout d) y) is next)
  both (Err e) next is first = tt

  worse : (e : Error) → a.faults ≤ b.faults → IsTrue b.is_open → IsFault b c e → IsFault a c e
  worse e up live (inl memory) = inl memory
  worse e up live (inr (told, inl more)) = inr (told, inl (omega (arith, up, more)))
  worse e up live (inr (told, inr shut)) = absurd (true≢false (sym live ∙ shut))

  worse_all : (q : Result U Error) → a.faults ≤ b.faults → IsTrue b.is_open → IfErr q (IsFault b c) → IfErr q (IsFault a c)
  worse_all (Ok y) up live h = tt
  worse_all (Err e) up live h = worse e up live h

  worse_or_unread : (q : Result U Error) → a.faults ≤ b.faults → IsTrue b.is_open → IfErr q (λ e. IsFault b c e ⊎ IsTrue (is_read_error e)) → IfErr q (λ e. IsFault a c e ⊎ IsTrue (is_read_error e))
  worse_or_unread (Ok y) up live h = tt
  worse_or_unread (Err e) up live (inl fault) = inl (worse e up live fault)
  worse_or_unread (Err e) up live (inr unread) = inr unread

  pub reads_then : OnlyReads layout a c r (λ db y. Early db x × Next db y)
  reads_then = record {
    clean = λ h. one.clean (two.clean h);
    outside = λ h. two.outside (one.outside h);
    rests = rests;
    works = two.works;
    seen = λ clean it. both r (two.seen clean (middle clean it)) (same clean it) (one.seen (two.clean clean) it);
    crash = λ clean it db left. one.crash (two.clean clean) it db (two.crash clean (middle clean it) db left);
    counts = λ clean it. omega (arith, one.counts (two.clean clean) it, two.counts clean (middle clean it));
    limit = λ clean it. two.limit clean (middle clean it) ∙ one.limit (two.clean clean) it;
    refused = λ clean it unlimited. worse_or_unread r (one.counts (two.clean clean) it) (one.works (two.clean clean)) (two.refused clean (middle clean it) (one.limit (two.clean clean) it ∙ unlimited));
    faulty = λ clean it unlimited t stands reads.
        worse_all r (one.counts (two.clean clean) it) (one.works (two.clean clean))
        (two.faulty clean (middle clean it) (one.limit (two.clean clean) it ∙ unlimited) t (subst (λ (d : Database). Stands (seen_by layout d) t) (sym (same clean it)) stands) reads);
  }

pub reads_failed : {T U : Type 0} (layout : Layout) (a b : State) (e : Error) (Early : Database → T → Type 0) (Next : Database → U → Type 0) → OnlyReads layout a b (Err e) Early → OnlyReads layout a b (Err e) Next
reads_failed layout a b e Early Next h = record { clean = h.clean; outside = h.outside; rests = h.rests; works = tt; seen = λ clean it. tt; crash = h.crash; counts = h.counts; limit = h.limit; refused = h.refused; faulty = h.faulty }

pub reads_made : {T U : Type 0} (layout : Layout) (a b : State) (x : T) (y : U) (Early : Database → T → Type 0) (Next : Database → U → Type 0) → OnlyReads layout a b (Ok x) Early → ((db : Database) → Early (seen_by layout db) x → Next (seen_by layout db) y)
    → OnlyReads layout a b (Ok y) Next
reads_made layout a b x y Early Next h made = record { clean = h.clean; outside = h.outside; rests = h.rests; works = h.works; seen = λ clean it. made a.now (h.seen clean it); crash = h.crash; counts = h.counts; limit = h.limit; refused = λ clean it unlimited. tt; faulty = λ clean it unlimited t stands reads. tt }
