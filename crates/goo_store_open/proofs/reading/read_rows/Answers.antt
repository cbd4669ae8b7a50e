use Rattle.std.proofs.Common.{rules, ◌≡◌, Err, sym, subst}
use Rattle.sqlite.specs.Held.{state}
use Rattle.goo_store_open.specs.Reading.{OnlyReads}
use Rattle.goo_store_open.specs.Shown.{ShowsCommon, ShowsAll}
use Rattle.goo_store_open.proofs.Chaining.{reads_failed}
use Rattle.goo_store_open.proofs.Both.{first_rows, all_read, later_failed}
use Rattle.goo_store_open.proofs.reading.read_rows.Goals as goal

pub returns-in_err-common : goal.returns-in_err-common
returns-in_err-common g c =
    let s0 = state g.S.Store c.args.conn.now in
    let s1 = state g.S.Store c.read_common.new.conn in
    let same : c.from_residual.result ≡ Err c.in_err-common.field-0.0 = search rules in
    subst (λ r. OnlyReads c.args.layout s0 s1 r ShowsAll) (sym same) (reads_failed c.args.layout s0 s1 _ ShowsCommon ShowsAll (c.in_err-common.ensures c.args.layout))

pub returns-in_err-read_later-in-Ours : goal.returns-in_err-read_later-in-Ours
returns-in_err-read_later-in-Ours g c =
    let s0 = state g.S.Store c.args.conn.now in
    let s1 = state g.S.Store c.read_common.new.conn in
    let s2 = state g.S.Store c.read_later.new.conn in
    let same : c.from_residual-in_err-read_later-in-Ours.result ≡ Err c.in_err-read_later-in-Ours.field-0.0 = search rules in
    subst (λ r. OnlyReads c.args.layout s0 s2 r ShowsAll) (sym same)
    (later_failed c.args.layout s0 s1 s2 c.in_ok-common.common _ c.in-Ours.is (c.in_ok-common.ensures c.args.layout) c.in_err-read_later-in-Ours.ensures)

pub returns-in-First : goal.returns-in-First
returns-in-First g c =
    let none = c.no_later.ensures in
    first_rows c.args.layout (state g.S.Store c.args.conn.now) (state g.S.Store c.read_common.new.conn) c.in_ok-common.common c.no_later.result c.all_rows.result c.all_rows.ensures c.in-First.is (c.in_ok-common.ensures c.args.layout) none.corrections none.devices none.lots

pub returns-in_ok-read_later-in-Ours : goal.returns-in_ok-read_later-in-Ours
returns-in_ok-read_later-in-Ours g c =
    all_read c.args.layout (state g.S.Store c.args.conn.now) (state g.S.Store c.read_common.new.conn) c.in_ok-common.common c.in_ok-read_later-in-Ours.field-0 c.all_rows-in-Ours.result c.all_rows-in-Ours.ensures (state g.S.Store c.read_later.new.conn) c.in-Ours.is (c.in_ok-common.ensures c.args.layout) c.in_ok-read_later-in-Ours.ensures
