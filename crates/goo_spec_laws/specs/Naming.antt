-- What a command names of an account.
use Rattle.std.specs.Prelude.{◌≡◌, ◌==◌, ◌||◌, ℕ, Bool, true, false, List, Option, Some, None}
use Rattle.std.specs.FinMap.{get}
use Rattle.goo_types.specs.declared.command.Command.{Command}
use Rattle.goo_types.specs.declared.command.Command.TheVariants.{CloseAccount, RegisterDevice, Declare, Correct, Transfer, Cancel, Withdraw, Export, Import}
use Rattle.goo_spec.specs.State.{State, Device}
use Rattle.goo_spec.specs.Maps.{is_within}
use Rattle.goo_spec.specs.Import.{names}
use Rattle.goo_spec_laws.specs.Rights.{is_in}
use Rattle.goo_spec_laws.specs.Agree.{its_certificate}

-- whether the command names the account
abbrev pub names_account : Command → ℕ → Bool
names_account (CloseAccount x) account = x.account == account
names_account (RegisterDevice x) account = x.account == account
names_account (Transfer x) account = (x.giver == account) || (x.taker == account)
names_account (Cancel x) account = x.account == account
names_account (Export x) account = x.giver == account
names_account (Import x) account = x.notice.account == account
names_account _ account = false

-- the device that the command names, if any
abbrev pub device_in : Command → Option (List ℕ)
device_in (RegisterDevice x) = Some x.device
device_in (Declare x) = Some x.device
device_in (Correct x) = Some x.device
device_in _ = None

-- whether the command names the certificate
abbrev pub names_certificate : Command → ℕ → Bool
names_certificate (Correct x) n = is_in x.range n
names_certificate (Transfer x) n = is_within x.range n
names_certificate (Cancel x) n = is_within x.range n
names_certificate (Withdraw x) n = is_within x.range n
names_certificate (Export x) n = is_within x.range n
names_certificate (Import x) n = names x.notice n
names_certificate _ n = false

-- the command is of others: it names neither the account, nor a device of it, nor a certificate whose place names it
pub record IsOfOthers (account : ℕ) (s : State) (command : Command) : Type 0 where
  pub itself : names_account command account ≡ false
  pub devices : (gsrn : List ℕ) (device : Device) → device_in command ≡ Some gsrn → get s.devices gsrn ≡ Some device → (device.account == account) ≡ false
  pub certificates : (n : ℕ) → names_certificate command n ≡ true → its_certificate account (get s.at n) ≡ None
