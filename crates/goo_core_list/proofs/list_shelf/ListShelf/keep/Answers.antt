use Rattle.std.proofs.Common.{ap, sym, ◌∙◌, subst, Some}
use Rattle.std.specs.Prelude.{IsTrue}
use Rattle.std.specs.FinMap.{insert, contains_key}
use Rattle.goo_spec.specs.State.{receipt_cmp}
use Rattle.goo_spec.specs.Step.{changed}
use Rattle.goo_core_shelf.specs.Maps.{map_of}
use Rattle.goo_core_list.specs.States.{state_of}
use Rattle.goo_ranges_rows.specs.Certificates.{beside}
use Rattle.goo_core_list.proofs.ReceiptLemmas.{receipted, allowed-receipted, notice-receipted, change-receipted}
use Rattle.goo_core_list.proofs.list_shelf.ListShelf.keep.Goals as goal

pub change-requires-clause-allowed : goal.change-requires-clause-allowed
unfolding state_of
change-requires-clause-allowed c = allowed-receipted _ (state_of c.args.self.now) c.args.plan.now.request c.args.plan.now.reply c.requires.accepted

pub change-requires-clause-sent : goal.change-requires-clause-sent
unfolding state_of
change-requires-clause-sent c = c.requires.sent ∙ sym (notice-receipted _ (state_of c.args.self.now) c.args.plan.now.request.command)

pub put_back-requires : goal.put_back-requires
unfolding state_of
put_back-requires c = subst (λ m. IsTrue (contains_key m (c.args.plan.now.request.caller, c.args.plan.now.request.key))) (sym (ap (λ s. s.receipts) c.in-Err.ensures.undone)) c.in_ok-before.ensures.there

pub returns-in-Err : goal.returns-in-Err
unfolding state_of
returns-in-Err c =
    let undone = c.in-Err.ensures.undone in
    let back = c.put_back.ensures (map_of receipt_cmp c.args.self.now.receipts) c.new-kept.result (ap (λ s. s.receipts) undone ∙ c.in_ok-before.ensures.done) c.in_ok-before.ensures.before in
    record { done = tt; undone = λ i. receipted (back i) (undone i); rows = c.in-Err.ensures.rows; memory = c.in-Err.ensures.memory }

pub returns : goal.returns
unfolding state_of
returns c =
    let s = state_of c.args.self.now in
    let q = c.args.plan.now.request in
    let receipt = c.new-kept.ensures ∙ ap (λ command. (Some command, c.args.plan.now.reply)) c.in_ok-copy.ensures.value in
    let put = c.in_ok-before.ensures.done ∙ ap (insert s.receipts (q.caller, q.key)) receipt in
    record {
      done = c.in_default.ensures.done ∙ ap (λ r. beside s.at (changed (receipted r s) q.command)) put ∙ change-receipted s q c.args.plan.now.reply c.requires.accepted;
      undone = tt;
      rows = c.in_default.ensures.rows;
      memory = tt;
    }
