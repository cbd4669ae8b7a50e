use Rattle.std.proofs.Common.{[], ◌∷◌, refl, append_assoc}
use Rattle.goo_ranges.proofs.cutting.set_pieces.Goals as goal

pub returns : goal.returns
returns c =
    let new = c.args.new.now in
    let before = rw c.get-first.ensures.value at c.in_ok-out.ensures in
    let after = rw c.get-last.ensures.value at c.in_ok-right.ensures in
    record {
      left = c.in_ok-out.out.items;
      right = c.in_ok-right.right.items;
      middle = new;
      end = c.last_number-end.result;
      before = before;
      after = after;
      ends = c.last_number-end.ensures;
      begins = refl;
      stops = refl;
      labelled = refl;
      whole = rw (c.in_ok-extend_from_slice.ensures.items, c.in_ok-push.ensures.items, c.deref.ensures.value) (append_assoc c.in_ok-out.out.items (new ∷ []) c.in_ok-right.right.items);
    }
