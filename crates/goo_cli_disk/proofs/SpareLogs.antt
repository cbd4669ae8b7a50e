-- When the log of two files may go.
use Rattle.std.proofs.Common.{◌≡◌, ◌<◌, ◌∷◌, ◌∙◌, inl, inr, refl, sym, arith, ℕ, suc, zero, List, [], length, slice_index}
use Rattle.sqlite_wal.specs.Recovery.{Image, RecoversAs, Replays, pages_after}
use Rattle.goo_cli_disk.specs.Spare.{IsSpare}

nothing : (bytes : List ℕ) → length bytes ≡ 0 → bytes ≡ []
nothing [] none = refl
nothing (b ∷ bytes) none = absurd (cc none)

-- recovery takes nothing from a log that is too short for a frame
taken : (size : ℕ) (log : List ℕ) (frames : ℕ) → length log < 56 → Replays size log frames → frames ≡ 0
taken size log frames short (inl ignored) = ignored.1
taken size log zero short (inr committed) = refl
taken size log (suc frames) short (inr committed) = let within = (committed.0.valid 0 (omega arith)).within in absurd (omega (arith, short, within))

none_taken : (size : ℕ) (log db : List ℕ) (frames : ℕ) → frames ≡ 0 → pages_after size log db frames ≡ pages_after size [] db 0
unfolding pages_after
none_taken size log db zero same = refl
none_taken size log db (suc frames) same = absurd (cc same)

same_alone : (image : Image) → length image.log < 56 → (size : ℕ) → RecoversAs size image (record image { log = [] })
same_alone image short size pages it = record {
  frames = 0;
  replays = inl (inl (omega arith), refl);
  present = it.present;
  gives = sym (none_taken size image.log image.db it.frames (taken size image.log it.frames short it.replays)) ∙ it.gives;
}

pub spare_short : (image : Image) → length image.log < 56 → slice_index image.db 0 ≡ 83 → IsSpare image
spare_short image short first = inl (record { same = same_alone image short; begun = inr first })
