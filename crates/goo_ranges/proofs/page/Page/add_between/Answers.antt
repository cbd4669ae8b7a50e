use Rattle.std.proofs.Common.{◌+◌, ◌-◌, take, drop}
use Rattle.std.specs.List.{count_by}
use Rattle.std.proofs.lemmas.Result.{on_ok_weaker}
use Rattle.goo_types.specs.declared.piece.Piece.{Piece}
use Rattle.goo_ranges_pieces.specs.Change.{meets}
use Rattle.goo_ranges.proofs.Adding.{in_order, cut_rises, all_rise, all_same, all_apart, few_deleted, few_inserted, add_spares}
use Rattle.goo_ranges.proofs.Exact.{exact-from_replaced, few-from_replaced}
use Rattle.goo_ranges.proofs.Sparing.{sparing-from_replaced}
use Rattle.goo_ranges.proofs.page.Page.add_between.Goals as goal

pub joined_pieces-requires : goal.joined_pieces-requires
joined_pieces-requires c =
    let new : Piece = record { first = c.args.first; last = c.args.last; lot = c.args.lot; place = c.args.place } in
    let w = c.widened-begin in
    let facts = c.in_ok-cut.ensures in
    rw c.deref.ensures.value (cut_rises c.args.self.now new w.result.2 w.result.0 w.result.1 c.in_ok-cut.cut.items facts.rising c.requires.one_code c.requires.forward w.ensures facts.set)

pub replace-requires-clause-rising : goal.replace-requires-clause-rising
replace-requires-clause-rising c =
    let new : Piece = record { first = c.args.first; last = c.args.last; lot = c.args.lot; place = c.args.place } in
    let w = c.widened-begin in
    let facts = c.in_ok-cut.ensures in
    all_rise c.args.self.now new w.result.2 w.result.0 w.result.1 c.in_ok-cut.cut.items facts.rising c.requires.one_code c.requires.forward w.ensures facts.set c.in_ok-insert.insert.items (rw c.deref.ensures.value at c.in_ok-insert.ensures.joined)

pub returns-clause-map : goal.returns-clause-map
returns-clause-map c =
    let new : Piece = record { first = c.args.first; last = c.args.last; lot = c.args.lot; place = c.args.place } in
    let w = c.widened-begin in
    let facts = c.in_ok-cut.ensures in
    on_ok_weaker c.replace.result (λ e n. rw e (all_same c.args.self.now new w.result.2 w.result.0 w.result.1 c.in_ok-cut.cut.items facts.rising c.requires.one_code c.requires.forward w.ensures facts.set c.in_ok-insert.insert.items (rw c.deref.ensures.value at c.in_ok-insert.ensures.joined) n)) c.replace.ensures.ok

pub returns-clause-disjoint : goal.returns-clause-disjoint
returns-clause-disjoint c =
    let new : Piece = record { first = c.args.first; last = c.args.last; lot = c.args.lot; place = c.args.place } in
    let w = c.widened-begin in
    let facts = c.in_ok-cut.ensures in
    on_ok_weaker c.replace.result (λ e. rw e (all_rise c.args.self.now new w.result.2 w.result.0 w.result.1 c.in_ok-cut.cut.items facts.rising c.requires.one_code c.requires.forward w.ensures facts.set c.in_ok-insert.insert.items (rw c.deref.ensures.value at c.in_ok-insert.ensures.joined))) c.replace.ensures.ok

pub returns-clause-exact : goal.returns-clause-exact
returns-clause-exact c =
    let new : Piece = record { first = c.args.first; last = c.args.last; lot = c.args.lot; place = c.args.place } in
    let w = c.widened-begin in
    let facts = c.in_ok-cut.ensures in
    exact-from_replaced c.replace.result c.args.self.now c.replace.new.self c.in_ok-insert.insert.items w.result.0 w.result.1 (in_order c.args.self.now new w.result.2 w.result.0 w.result.1 c.in_ok-cut.cut.items facts.rising c.requires.one_code c.requires.forward w.ensures facts.set) c.replace.ensures.ok c.replace.ensures.inserted c.replace.ensures.deleted

pub returns-clause-maximal : goal.returns-clause-maximal
returns-clause-maximal c =
    let new : Piece = record { first = c.args.first; last = c.args.last; lot = c.args.lot; place = c.args.place } in
    let w = c.widened-begin in
    let facts = c.in_ok-cut.ensures in
    on_ok_weaker c.replace.result (λ e a. rw e (all_apart c.args.self.now new w.result.2 w.result.0 w.result.1 c.in_ok-cut.cut.items facts.rising c.requires.one_code c.requires.forward w.ensures facts.set c.in_ok-insert.insert.items (rw c.deref.ensures.value at c.in_ok-insert.ensures.joined) c.in_ok-insert.ensures.apart a)) c.replace.ensures.ok

pub returns-clause-few : goal.returns-clause-few
returns-clause-few c =
    let new : Piece = record { first = c.args.first; last = c.args.last; lot = c.args.lot; place = c.args.place } in
    let w = c.widened-begin in
    let facts = c.in_ok-cut.ensures in
    let old = c.args.self.now in
    let deleted = few_deleted old new w.result.2 w.result.0 w.result.1 c.in_ok-cut.cut.items facts.rising c.requires.one_code c.requires.forward w.ensures facts.set c.in_ok-insert.insert.items (rw c.deref.ensures.value at c.in_ok-insert.ensures.joined) in
    let inserted = few_inserted old new w.result.2 w.result.0 w.result.1 c.in_ok-cut.cut.items facts.rising c.requires.one_code c.requires.forward w.ensures facts.set c.in_ok-insert.insert.items (rw c.deref.ensures.value at c.in_ok-insert.ensures.joined) in
    few-from_replaced c.replace.result c.in_ok-insert.insert.items (take (w.result.1 - w.result.0) (drop w.result.0 old)) (count_by (meets c.args.first c.args.last) old + 2) inserted deleted c.replace.ensures.inserted c.replace.ensures.deleted

pub returns-clause-spares : goal.returns-clause-spares
returns-clause-spares c =
    let new : Piece = record { first = c.args.first; last = c.args.last; lot = c.args.lot; place = c.args.place } in
    let w = c.widened-begin in
    let facts = c.in_ok-cut.ensures in
    let old = c.args.self.now in
    sparing-from_replaced c.replace.result old c.in_ok-insert.insert.items w.result.0 w.result.1 c.args.first c.args.last
    (in_order old new w.result.2 w.result.0 w.result.1 c.in_ok-cut.cut.items facts.rising c.requires.one_code c.requires.forward w.ensures facts.set)
    (add_spares old new w.result.2 w.result.0 w.result.1 c.in_ok-cut.cut.items facts.rising c.requires.one_code c.requires.forward w.ensures facts.set c.in_ok-insert.insert.items (rw c.deref.ensures.value at c.in_ok-insert.ensures.joined) c.in_ok-insert.ensures.apart)
    c.replace.ensures.inserted c.replace.ensures.deleted
