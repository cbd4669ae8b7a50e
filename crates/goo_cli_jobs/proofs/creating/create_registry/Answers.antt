use Rattle.std.proofs.Common.{◌∙◌, subst, sym}
use Rattle.sqlite.specs.Files.{file_state}
use Rattle.sqlite.specs.State.{HasCleanDisk}
use Rattle.sqlite_store.specs.FileStore.{recovers}
use Rattle.goo_spec.specs.Created.{created}
use Rattle.goo_spec.specs.State.{State}
use Rattle.goo_cli_registry.specs.Closings.{IsKept}
use Rattle.goo_cli_registry.proofs.Files.{clean_before, kept_spares, leaves_or, leaves_or_made, leaves_store, made_open, only_there, unmade, whole_as}
use Rattle.goo_cli_jobs.proofs.MakingLemmas.{unread_tells, unread_words, vacant_tells}
use Rattle.goo_cli_jobs.proofs.creating.create_registry.Goals as goal

pub returns-in-Err-clause-words : goal.returns-in-Err-clause-words
returns-in-Err-clause-words g c = unread_words c.in-Err.fault c.from.result c.from.ensures

pub returns-in-Err-clause-tells : goal.returns-in-Err-clause-tells
returns-in-Err-clause-tells g c clean = unread_tells c.args.files c.in-Err.fault c.from.result c.in-Err.left c.from.ensures (λ store. c.in-Err.ensures.store store clean)

-- a registry is made in a database that has no table
pub returns-in-Ok-begin-clause-vacant : goal.returns-in-Ok-begin-clause-vacant
returns-in-Ok-begin-clause-vacant g c = (
  c.in-Ok.conn,
  λ clean. record { finds = c.in-Ok.ensures.found clean; opened = c.in-Ok.ensures.opened clean; unlimited = c.in-Ok.ensures.fresh.unlimited },
  λ taken. c.in-Ok-begin.ensures.taken taken,
)

pub returns-in-Ok-begin-clause-made : goal.returns-in-Ok-begin-clause-made
returns-in-Ok-begin-clause-made g c =
    let made = c.in-Ok-begin in
    whole_as c.close_registry.result (file_state made.shelf.conn) _ _ c.close_registry.ensures.clean (λ clean. made.ensures.state (made.ensures.ready.works clean)) c.close_registry.ensures.whole

pub returns-in-Ok-begin-clause-held : goal.returns-in-Ok-begin-clause-held
returns-in-Ok-begin-clause-held g c = λ clean.
    let made = c.in-Ok-begin in
    let none = made.ensures.ready.works (c.close_registry.ensures.clean clean) in
    kept_spares c.args.files _ c.close_registry.result (subst (λ (s : State). IsKept s c.close_registry.result) (made.ensures.state none) (c.close_registry.ensures.kept none))

pub returns-in-Err-clause-left : goal.returns-in-Err-clause-left
returns-in-Err-clause-left g c = λ clean. leaves_or c.args.files _ c.in-Err.left (c.in-Err.ensures.unharmed clean)

-- what was there already was not touched
untouched : goal.returns-in-AlreadyThere-clause-left
untouched g c = λ clean.
    let late : HasCleanDisk (file_state c.in-Err-begin.conn) = clean_before _ _ c.into_store.ensures.quiet.clean clean in
    let before : HasCleanDisk (file_state c.in-Ok.conn) = c.in-Err-begin.ensures.clean late in
    let same = c.in-Err-begin.ensures.there c.in-AlreadyThere.is in
    leaves_store c.args.files g.met.D.Disk.seen_may_stay c.in-Ok.conn (c.in-Ok.ensures.opened before).0.is_open (c.in-Ok.ensures.found before) c.into_store.result
    (λ db may. subst (λ conn. recovers conn.store db) same (c.into_store.ensures.quiet.outcomes db may))

pub returns-in-AlreadyThere-clause-left : goal.returns-in-AlreadyThere-clause-left
returns-in-AlreadyThere-clause-left g c = untouched g c

pub returns-in-AlreadyThere-clause-there : goal.returns-in-AlreadyThere-clause-there
returns-in-AlreadyThere-clause-there g c told = untouched g c

-- a failed start leaves what was there, or a new registry that a crash brings to light
pub returns-in_default : goal.returns-in_default
returns-in_default g c = record {
  made = tt;
  words = unmade c.in-Err-begin.fault c.ending_of-in_default.result c.ending_of-in_default.ensures c.in-Err-begin.ensures.words;
  vacant = tt;
  tells = λ clean.
      vacant_tells c.args.files c.ending_of-in_default.result _ (unmade c.in-Err-begin.fault c.ending_of-in_default.result c.ending_of-in_default.ensures c.in-Err-begin.ensures.words)
      (λ told. c.in_default.not-AlreadyThere (only_there c.in-Err-begin.fault (sym c.ending_of-in_default.ensures ∙ told))) (
        c.in-Ok.conn,
        λ clean. record { finds = c.in-Ok.ensures.found clean; opened = c.in-Ok.ensures.opened clean; unlimited = c.in-Ok.ensures.fresh.unlimited },
        λ taken. c.in_default.not-AlreadyThere (c.in-Err-begin.ensures.taken taken),
      );
  held = tt;
  copied = tt;
  uncopied = tt;
  left = λ clean.
      let late : HasCleanDisk (file_state c.in-Err-begin.conn) = clean_before _ _ c.into_store.ensures.quiet.clean clean in
      let before : HasCleanDisk (file_state c.in-Ok.conn) = c.in-Err-begin.ensures.clean late in
      leaves_or_made c.args.files g.met.D.Disk.seen_may_stay c.in-Ok.conn (c.in-Ok.ensures.opened before).0.is_open (c.in-Ok.ensures.found before) (created c.args.opening.code c.args.opening.today c.args.opening.next_serial)
      c.into_store.result (λ db may. made_open _ db (file_state c.in-Ok.conn).is_open (c.in-Ok.ensures.opened before).0.is_open (c.in-Err-begin.ensures.crash late db (c.into_store.ensures.quiet.outcomes db may)));
  there = λ told. absurd (c.in_default.not-AlreadyThere (only_there c.in-Err-begin.fault (sym c.ending_of-in_default.ensures ∙ told)));
}

-- there are tables
pub returns-in-AlreadyThere-clause-tells : goal.returns-in-AlreadyThere-clause-tells
returns-in-AlreadyThere-clause-tells g c clean =
    let late : HasCleanDisk (file_state c.in-Err-begin.conn) = clean_before _ _ c.into_store.ensures.quiet.clean clean in
    let before : HasCleanDisk (file_state c.in-Ok.conn) = c.in-Err-begin.ensures.clean late in
    rw c.ending_of.ensures (rw c.in-AlreadyThere.is (
      c.in-Ok.conn,
      record { finds = c.in-Ok.ensures.found before; opened = c.in-Ok.ensures.opened before; unlimited = c.in-Ok.ensures.fresh.unlimited },
      λ none. c.in-Err-begin.ensures.untaken none c.in-AlreadyThere.is,
    ))
