use Rattle.std.proofs.Common.{arith, ◌≡◌, ◌+◌, ◌-◌, ◌≤◌, ◌++◌, take, drop, length, ◌∙◌}
use Rattle.std.specs.List.{count_by}
use Rattle.goo_ranges_pieces.specs.Change.{meets}
use Rattle.std.proofs.lemmas.Result.{on_ok_weaker}
use Rattle.goo_ranges.proofs.Exact.{exact-from_replaced, few-from_replaced}
use Rattle.goo_ranges.proofs.Splicing.{spliced-apart, few-cuts, length-cuts, count-middle}
use Rattle.goo_ranges_pieces.proofs.Touching.{spliced-rising, spliced-same, between-rising, in-three}
use Rattle.goo_ranges.proofs.Sparing.{left-spared, sparing-from_replaced}
use Rattle.goo_ranges.proofs.Trimming.{length-between}
use Rattle.goo_ranges.proofs.page.Page.reassign_between.Goals as goal

pub replace-requires-clause-rising : goal.replace-requires-clause-rising
replace-requires-clause-rising c =
    let facts = c.in_ok-insert.ensures in
    let same = c.trim_last-end.ensures.trimmed.same ∙ c.trim_first-begin.ensures.trimmed.same in
    rw same (spliced-rising c.args.self.now c.args.first c.args.last c.touched-from.result.0 c.touched-from.result.1 c.args.place c.in_ok-insert.insert.items facts.rising c.touched-from.ensures facts.moved)

pub returns-clause-map : goal.returns-clause-map
returns-clause-map c =
    let facts = c.in_ok-insert.ensures in
    let same = c.trim_last-end.ensures.trimmed.same ∙ c.trim_first-begin.ensures.trimmed.same in
    on_ok_weaker c.replace.result (λ e n. let whole : c.replace.new.self ≡ take c.touched-from.result.0 c.args.self.now ++ (c.in_ok-insert.insert.items ++ drop c.touched-from.result.1 c.args.self.now) = e ∙ same in rw whole (spliced-same c.args.self.now c.args.first c.args.last c.touched-from.result.0 c.touched-from.result.1 c.args.place c.in_ok-insert.insert.items facts.rising c.touched-from.ensures facts.moved n)) c.replace.ensures.ok

pub returns-clause-disjoint : goal.returns-clause-disjoint
returns-clause-disjoint c =
    let facts = c.in_ok-insert.ensures in
    let same = c.trim_last-end.ensures.trimmed.same ∙ c.trim_first-begin.ensures.trimmed.same in
    on_ok_weaker c.replace.result (λ e. let whole : c.replace.new.self ≡ take c.touched-from.result.0 c.args.self.now ++ (c.in_ok-insert.insert.items ++ drop c.touched-from.result.1 c.args.self.now) = e ∙ same in rw whole (spliced-rising c.args.self.now c.args.first c.args.last c.touched-from.result.0 c.touched-from.result.1 c.args.place c.in_ok-insert.insert.items facts.rising c.touched-from.ensures facts.moved)) c.replace.ensures.ok

pub returns-clause-exact : goal.returns-clause-exact
returns-clause-exact c =
    exact-from_replaced c.replace.result c.args.self.now c.replace.new.self c.trim_last-end.new.insert.items c.trim_first-begin.result c.trim_last-end.result c.trim_last-end.ensures.trimmed.order c.replace.ensures.ok c.replace.ensures.inserted c.replace.ensures.deleted

pub returns-clause-maximal : goal.returns-clause-maximal
returns-clause-maximal c =
    let facts = c.in_ok-insert.ensures in
    let same = c.trim_last-end.ensures.trimmed.same ∙ c.trim_first-begin.ensures.trimmed.same in
    on_ok_weaker c.replace.result (λ e a. let whole : c.replace.new.self ≡ take c.touched-from.result.0 c.args.self.now ++ (c.in_ok-insert.insert.items ++ drop c.touched-from.result.1 c.args.self.now) = e ∙ same in rw whole (spliced-apart c.args.self.now c.args.first c.args.last c.touched-from.result.0 c.touched-from.result.1 c.args.place c.in_ok-insert.insert.items facts.rising c.touched-from.ensures facts.moved facts.apart a)) c.replace.ensures.ok

pub returns-clause-few : goal.returns-clause-few
returns-clause-few c =
    let facts = c.in_ok-insert.ensures in
    let old = c.args.self.now in
    let from = c.touched-from.result.0 in
    let to = c.touched-from.result.1 in
    let first = c.args.first in
    let last = c.args.last in
    let middle = take (to - from) (drop from old) in
    let near = c.touched-from.ensures in
    let rise = between-rising old from (to - from) facts.rising in
    let cut = few-cuts 0 first last middle rise near.near in
    let long = length-cuts 0 first last middle (omega arith) rise in
    let made = facts.moved.few in
    let part = count-middle (meets first last) (take from old) middle (drop to old) in
    let whole = rw (in-three old from to near.order) at part in
    let one = c.trim_first-begin.ensures.trimmed in
    let two = c.trim_last-end.ensures.trimmed in
    let begin = c.trim_first-begin.result in
    let end = c.trim_last-end.result in
    let starts : from ≤ begin = one.starts in
    let ends : end ≤ to = two.ends in
    let fewer_first : length c.trim_first-begin.new.insert.items ≤ length c.in_ok-insert.insert.items = one.few in
    let fewer_last : length c.trim_last-end.new.insert.items ≤ length c.trim_first-begin.new.insert.items = two.few in
    let shorter = length-between old from to begin end near.bound starts ends in
    few-from_replaced c.replace.result c.trim_last-end.new.insert.items (take (end - begin) (drop begin old)) (count_by (meets first last) old + 2) (omega arith) (omega arith) c.replace.ensures.inserted c.replace.ensures.deleted

pub returns-clause-spares : goal.returns-clause-spares
returns-clause-spares c =
    let old = c.args.self.now in
    let from = c.touched-from.result.0 in
    let to = c.touched-from.result.1 in
    let rise = between-rising old from (to - from) c.in_ok-insert.ensures.rising in
    sparing-from_replaced c.replace.result old c.trim_last-end.new.insert.items c.trim_first-begin.result c.trim_last-end.result c.args.first c.args.last c.trim_last-end.ensures.trimmed.order
    (left-spared 0 c.args.first c.args.last _ _ _ _ _ _ rise c.touched-from.ensures.near c.trim_first-begin.ensures.left c.trim_last-end.ensures.left)
    c.replace.ensures.inserted c.replace.ensures.deleted
