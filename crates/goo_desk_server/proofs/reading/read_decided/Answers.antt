use Rattle.std.proofs.Common.{rules, ◌≡◌, sym, subst}
use Rattle.goo_desk_heads.specs.Heads.{Begins}
use Rattle.goo_desk_heads.specs.declared.front.Front.TheVariants.{Unfinished}
use Rattle.goo_desk_heads.proofs.HeadFacts.{begun-on, nothing-begun}
use Rattle.goo_desk_server.proofs.ConnectionFacts.{sure-stands, whole-stands, read-nothing}
use Rattle.goo_desk_server.proofs.reading.read_decided.Goals as goal

pub loop-wanted-init : goal.loop-wanted-init
loop-wanted-init g c = (search rules, subst (λ bytes. Begins bytes Unfinished) (sym c.new-bytes.ensures.items) nothing-begun)

pub returns-clause-stands : goal.returns-clause-stands
returns-clause-stands g c =
    sure-stands (g.R.Read.remaining c.args.reader.now) (g.R.Read.remaining c.loop-wanted.reader) c.loop-wanted.bytes.items c.loop-wanted.invariant.0
    (rw (c.deref.ensures.value, c.in_default.is) at c.bytes_wanted.ensures.sure)

pub returns-then-count-eq0-clause-stands : goal.returns-then-count-eq0-clause-stands
returns-then-count-eq0-clause-stands g c =
    let none : c.in_ok-count.count ≡ 0 = c.if-count-eq0.true in
    let nothing = rw none at c.in_ok-count.ensures.bytes in
    let end = c.in_ok-count.ensures.end none (search rules) in
    let same : c.reserve.new.self.items ≡ c.loop-wanted.bytes.items = search rules in
    let stays = whole-stands (g.R.Read.remaining c.args.reader.now) (g.R.Read.remaining c.hear.new.self) c.loop-wanted.bytes.items
    (read-nothing (g.R.Read.remaining c.args.reader.now) (g.R.Read.remaining c.loop-wanted.reader) (g.R.Read.remaining c.hear.new.self) c.loop-wanted.bytes.items c.loop-wanted.invariant.0 nothing) end in
    rw same stays

pub returns-then-count-eq0-clause-front : goal.returns-then-count-eq0-clause-front
returns-then-count-eq0-clause-front g c =
    let same : c.reserve.new.self.items ≡ c.loop-wanted.bytes.items = search rules in
    subst (λ bytes. Begins bytes c.loop-wanted.front) (sym same) c.loop-wanted.invariant.1

pub front_after-front-requires : goal.front_after-front-requires
front_after-front-requires g c =
    let same : c.reserve.new.self.items ≡ c.loop-wanted.bytes.items = search rules in
    rw (c.deref-in-Some.ensures.value, c.in_ok-extend_from_slice.ensures.items, same) (begun-on c.loop-wanted.bytes.items _ c.loop-wanted.front c.loop-wanted.invariant.1)
