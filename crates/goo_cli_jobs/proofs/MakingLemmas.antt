-- What is told of the making of a registry.
use Rattle.std.proofs.Common.{◌≡◌, ◌⊎◌, ◌≢◌, ap, arith, inl, inr, refl, subst, sym}
use Rattle.sqlite_disk.specs.declared.Disk.{Ghosts}
use Rattle.sqlite_disk.specs.declared.Files.{Files}
use Rattle.sqlite.specs.declared.file.Leftover.{Leftover}
use Rattle.goo_types.specs.declared.fault.Fault.{Fault}
use Rattle.goo_types.specs.declared.fault.Fault.TheVariants as desk
use Rattle.goo_cli_ending.specs.Endings.{failure_of_desk, status_of}
use Rattle.goo_cli_ending.specs.declared.ending.NotDone.TheVariants as denial
use Rattle.goo_cli_ending.specs.declared.ending.Ending.{Ending}
use Rattle.goo_cli_ending.specs.declared.ending.Ending.TheVariants as ending
use Rattle.goo_cli_ending.specs.declared.ending.Failure.{Failure}
use Rattle.goo_cli_ending.specs.declared.ending.Failure.TheVariants as failure
use Rattle.goo_cli_registry.specs.Openings.{IsBlamed, IsOfInit}
use Rattle.goo_cli_registry.specs.Refusals.{IsVacant, TellsMaking}
use Rattle.goo_cli_registry.specs.declared.closing.Left.{Left}
use Rattle.goo_cli_registry.specs.declared.closing.Left.TheVariants as left

-- one is there, or a fault of the store or want of memory kept it from being made
abbrev pub IsUnmade : Ending → Type 0
IsUnmade told = (told ≡ ending.Denied denial.AlreadyThere) ⊎ ((told ≡ ending.Failed failure.Store) ⊎ (told ≡ ending.Failed failure.Memory))

-- so it ends as the making of a registry does
pub unmade_words : (told : Ending) → IsUnmade told → IsOfInit told
unmade_words told (inl is) = subst (λ (e : Ending). IsOfInit e) (sym is) tt
unmade_words told (inr (inl is)) = subst (λ (e : Ending). IsOfInit e) (sym is) tt
unmade_words told (inr (inr is)) = subst (λ (e : Ending). IsOfInit e) (sym is) tt

-- status 1 tells that a registry is there
pub denied : (told : Ending) → IsUnmade told → status_of told ≡ 1 → told ≡ ending.Denied denial.AlreadyThere
denied told (inl is) one = is
denied told (inr (inl is)) one = let three : status_of told ≡ 3 = ap status_of is in absurd (omega (arith, three, one))
denied told (inr (inr is)) one = let three : status_of told ≡ 3 = ap status_of is in absurd (omega (arith, three, one))

-- files that could not be opened
pub unread_words : (fault : Fault) (told : Failure) → told ≡ failure_of_desk fault → IsUnmade (ending.Failed told)
unread_words desk.Store told is = inr (inl (ap ending.Failed is))
unread_words desk.Memory told is = inr (inr (ap ending.Failed is))

module _ {D : Type 0} {g : Ghosts D} (files : Files D) where
  pub unread_tells : (fault : Fault) (told : Failure) (rest : Leftover D g) → told ≡ failure_of_desk fault → (fault ≡ desk.Store → IsBlamed files rest) → TellsMaking files (ending.Failed told) (left.Parts rest)
  unread_tells desk.Store told rest is blamed = subst (λ (f : Failure). TellsMaking files (ending.Failed f) (left.Parts rest)) (sym is) (inl (blamed refl))
  unread_tells desk.Memory told rest is blamed = subst (λ (f : Failure). TellsMaking files (ending.Failed f) (left.Parts rest)) (sym is) tt

  -- in an empty database
  pub vacant_tells : (told : Ending) (rest : Left D g) → IsUnmade told → (told ≡ ending.Denied denial.AlreadyThere → ⊥) → IsVacant g files → TellsMaking files told rest
  vacant_tells told rest (inl is) other vacant = absurd (other is)
  vacant_tells told rest (inr (inl is)) other vacant = subst (λ (e : Ending). TellsMaking files e rest) (sym is) (inr vacant)
  vacant_tells told rest (inr (inr is)) other vacant = subst (λ (e : Ending). TellsMaking files e rest) (sym is) tt

  -- a registry that was made there, whatever came of it then
  pub made_tells : (told : Ending) (rest : Left D g) → IsOfInit told → status_of told ≢ 1 → IsVacant g files → TellsMaking files told rest
  made_tells ending.Done rest words made vacant = vacant
  made_tells ending.PartlyDone rest words made vacant = absurd words
  made_tells (ending.Denied denial.AlreadyThere) rest words made vacant = absurd (made refl)
  made_tells (ending.Denied denial.UnknownAccount) rest words made vacant = absurd words
  made_tells (ending.Denied denial.Header) rest words made vacant = absurd words
  made_tells (ending.Words error) rest words made vacant = absurd words
  made_tells (ending.Misused reason) rest words made vacant = absurd words
  made_tells (ending.Failed failure.Store) rest words made vacant = inr vacant
  made_tells (ending.Failed failure.Memory) rest words made vacant = tt
  made_tells (ending.Failed failure.Write) rest words made vacant = vacant
  made_tells (ending.Failed failure.Read) rest words made vacant = absurd words
  made_tells (ending.Failed failure.NotARegistry) rest words made vacant = absurd words
  made_tells (ending.Failed (failure.Version version)) rest words made vacant = absurd words
  made_tells (ending.Failed failure.Damaged) rest words made vacant = absurd words
