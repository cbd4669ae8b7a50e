use Rattle.std.proofs.Common.{pos, ◌∙◌, ap, refl, sym, IsTrue, Some}
use Rattle.std.specs.Ordering.{int_eq}
use Rattle.sqlite.specs.Held.{state as view}
use Rattle.std.specs.Cmp.{nat_cmp_total}
use Rattle.goo_spec_tables.specs.States.{account_of}
use Rattle.goo_spec_tables.proofs.Known.{known_row, number_test}
use Rattle.goo_spec_tables.specs.States.{state_of}
use Rattle.goo_store_judge.proofs.Looking.{looked, refused_look, well}
use Rattle.goo_store_pieces.proofs.Found.{known}
use Rattle.goo_store_judge.proofs.Blaming.{blames, refused_blames}
use Rattle.goo_store_values.proofs.RowsRead.{found_row, each_so}
use Rattle.goo_spec_tables.specs.Readable.{is_account}
use Rattle.goo_tables_rows.specs.Rows.{account_in}
use Rattle.goo_store_judge.specs.Moments.{tables_in}
use Rattle.goo_store_pieces.proofs.Caching.{kept_blames, kept_look, lasts_on, lasts_with_account}
use Rattle.goo_store.proofs.shelf.SqlShelfShelf.account.Goals as goal

pub returns-then-self-clause-looks : goal.returns-then-self-clause-looks
returns-then-self-clause-looks g c = refused_look (view g.S.Store c.args.self.now.conn) c.args.self.now.well c.args.self.now.refused c.if-self.true (λ live db may. g.met.S.Store.settled c.args.self.now.conn.store db live may) _

pub invariant_of-self : goal.invariant_of-self
unfolding state_of
invariant_of-self g c = record {
  outside = c.find_account-found.ensures.outside c.args.self.now.outside;
  well = well (view g.S.Store c.args.self.now.conn) (view g.S.Store c.find_account-found.new.conn) c.args.self.now.well _ _ c.find_account-found.ensures.looks;
  known = known (view g.S.Store c.args.self.now.conn) (view g.S.Store c.find_account-found.new.conn) c.args.self.now.well _ _ c.find_account-found.ensures.looks c.args.self.now.known_rows c.args.self.now.known;
  cached =
      lasts_with_account (view g.S.Store c.args.self.now.conn) (view g.S.Store c.find_account-found.new.conn) c.args.self.now.refused c.note_fault-read.new.refused c.args.account c.note_fault-read.result
      (looked (view g.S.Store c.args.self.now.conn) (view g.S.Store c.find_account-found.new.conn) c.args.self.now.well _ _ c.find_account-found.ensures.looks _ _ c.read_account.result
      c.args.self.now.refused c.note_fault-read.new.refused c.note_fault-read.result (λ live db may. g.met.S.Store.settled c.args.self.now.conn.store db live may) c.if-self.false c.read_account.ensures.value c.note_fault-read.ensures
      (λ kept row account found read. known_row nat_cmp_total (λ a. a.number) c.args.account _ (λ a. ap (λ n. int_eq (pos a.number) (pos n)) c.get.ensures.value ∙ number_test a.number c.args.account) account_of _ _ account found read))
      (record { answered = c.is_ok-self.result; accounts = c.args.self.now.cache.accounts; ahead = c.args.self.now.cache.ahead }) (record { answered = c.is_ok-self.result; accounts = c.keep_account.new.accounts; ahead = c.args.self.now.cache.ahead }) refl refl c.keep_account.ensures.kept
      (lasts_on (view g.S.Store c.args.self.now.conn) (view g.S.Store c.find_account-found.new.conn) c.args.self.now.well _ _ c.find_account-found.ensures.looks c.args.self.now.cache c.is_ok-self.result c.is_ok-self.ensures.value c.args.self.now.cached);
}

pub returns-clause-looks : goal.returns-clause-looks
unfolding state_of
returns-clause-looks g c =
    looked (view g.S.Store c.args.self.now.conn) (view g.S.Store c.find_account-found.new.conn) c.args.self.now.well _ _ c.find_account-found.ensures.looks _ _ c.read_account.result
    c.args.self.now.refused c.note_fault-read.new.refused c.note_fault-read.result (λ live db may. g.met.S.Store.settled c.args.self.now.conn.store db live may) c.if-self.false c.read_account.ensures.value c.note_fault-read.ensures
    (λ kept row account found read. known_row nat_cmp_total (λ a. a.number) c.args.account _ (λ a. ap (λ n. int_eq (pos a.number) (pos n)) c.get.ensures.value ∙ number_test a.number c.args.account) account_of _ _ account found read)

pub returns-in-Some-clause-looks : goal.returns-in-Some-clause-looks
returns-in-Some-clause-looks g c =
    kept_look (view g.S.Store c.args.self.now.conn) c.args.self.now.well c.args.self.now.refused c.if-self.false (λ live db may. g.met.S.Store.settled c.args.self.now.conn.store db live may) _ (Some c.in-Some.kept)
    (c.args.self.now.cached.is_open c.in-Some.ensures.answered) (λ none. sym (c.in-Some.ensures.kept (tables_in (view g.S.Store c.args.self.now.conn)) (c.args.self.now.cached.so none)))

pub returns-in-Some-clause-store : goal.returns-in-Some-clause-store
returns-in-Some-clause-store g c = kept_blames (view g.S.Store c.args.self.now.conn) c.args.self.now.refused (Some c.in-Some.kept)

pub returns-then-self-clause-store : goal.returns-then-self-clause-store
returns-then-self-clause-store g c = refused_blames (view g.S.Store c.args.self.now.conn) c.args.self.now.refused _ c.if-self.true

pub returns-clause-store : goal.returns-clause-store
returns-clause-store g c =
    blames (view g.S.Store c.args.self.now.conn) (view g.S.Store c.find_account-found.new.conn) c.args.self.now.well _ _ c.find_account-found.ensures.looks _ _ c.read_account.result c.args.self.now.refused c.note_fault-read.new.refused c.note_fault-read.result
    c.find_account-found.ensures.readable c.read_account.ensures.accepts c.note_fault-read.ensures (λ can. can.accounts)
    (λ stands kept row found. found_row account_in (λ r. IsTrue (is_account r)) _ (tables_in (view g.S.Store c.args.self.now.conn)).accounts (each_so is_account (λ r. IsTrue (is_account r)) (λ _ good. good) (tables_in (view g.S.Store c.args.self.now.conn)).accounts kept.readable.accounts) row found)
