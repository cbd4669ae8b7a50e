-- The withdrawal of ..0001, which account 1 holds, names neither an account nor a device. Yet it is of account 1, by the certificate, and changes what that
-- account is shown; for account 2 it is of others.
use Rattle.std.proofs.Common.{◌≡◌, Bool, true, false, cond, Some, None, refl, sym, ap, ◌∙◌}
use Rattle.std.specs.Prelude.{codes}
use Rattle.std.specs.FinMap.{get}
use Rattle.goo_types.specs.Place.{account_of}
use Rattle.goo_types.specs.declared.place.Place.TheVariants.{Held, Withdrawn}
use Rattle.goo_types.specs.declared.command.Withdraw as withdraw
use Rattle.goo_types.specs.declared.command.Command.TheVariants.{Withdraw}
use Rattle.goo_spec.specs.Maps.{is_within}
use Rattle.goo_spec.specs.Withdraw.{with_withdrawal}
use Rattle.goo_spec.specs.Fate.{moved_one}
use Rattle.goo_spec.proofs.Fating.{fate_moved}
use Rattle.goo_spec.proofs.Mapping.{none_some}
use Rattle.goo_spec.proofs.ExampleKeys.{numbers, issued, certificates, january_lot, at_january}
use Rattle.goo_spec_laws.specs.Agree.{its_certificate}
use Rattle.goo_spec_laws.specs.Naming.{IsOfOthers}

abbrev takes_back : withdraw.Withdraw
takes_back = record { range = numbers 1 1; reason = codes "meter read twice" }

not_of_2 : (b : Bool) → its_certificate 2 (cond b (Some (january_lot, Held 1)) None) ≡ None
not_of_2 true = refl
not_of_2 false = refl

pub others_than_2 : IsOfOthers 2 issued (Withdraw takes_back)
others_than_2 = record {
  itself = refl;
  devices = λ gsrn device none there. none_some gsrn none;
  certificates = λ n named. ap (its_certificate 2) (at_january n) ∙ not_of_2 (is_within (numbers 1 1200) n);
}

pub of_account_1 : IsOfOthers 1 issued (Withdraw takes_back) → ⊥
of_account_1 others = none_some (january_lot, Held 1) (sym (others.certificates 7000000000001 refl) ∙ ap (its_certificate 1) (at_january 7000000000001))

pub seen_by_account_1 : its_certificate 1 (get (with_withdrawal issued takes_back).at 7000000000001) ≡ Some (january_lot, Withdrawn 1 1)
unfolding with_withdrawal
seen_by_account_1 = ap (its_certificate 1)
    (fate_moved (λ lot place. Withdrawn (account_of place) 1) (λ lot place. refl) (numbers 1 1) certificates 7000000000001
    ∙ ap (moved_one (numbers 1 1) (λ lot place. Withdrawn (account_of place) 1) 7000000000001) (at_january 7000000000001))
