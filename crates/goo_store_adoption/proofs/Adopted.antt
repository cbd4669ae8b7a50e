-- Two looks at tables, one after another, and then the tables written anew.
use Rattle.std.proofs.Common.{◌≡◌, List, length, IsTrue, arith, subst}
use Rattle.sqlite.specs.Effect.{Database}
use Rattle.sqlite.specs.State.{State, HasCleanDisk, Survives}
use Rattle.sqlite.proofs.StateLemmas.{survives_then}
use Rattle.goo_tables_rows.specs.Stands.{Rests, IsSettled}
use Rattle.goo_tables_rows.proofs.Inside.{survives_both}
use Rattle.goo_store_open.specs.declared.layout.Layout.{Layout}
use Rattle.goo_store_anew.specs.Answered.{AreAnswers, HoldAnswers, IsSameIn, rows_at}
use Rattle.goo_store_anew.specs.declared.answers.Answer.{Answer}
use Rattle.goo_store_anew.proofs.Resting.{rests_then, settled_still}
use Rattle.goo_store_adoption.specs.Judged.{count_of, IsRegistry, HoldsRegistry, HoldSame}

module _ (a b d : State) (settled : IsSettled a) (first : Survives a b (λ _. ⊥)) (first_rests : HasCleanDisk b → IsSettled a → Rests a b)
    (second : Survives b d (λ _. ⊥)) (second_rests : HasCleanDisk d → IsSettled b → Rests b d) where
  pub rests_both : HasCleanDisk d → Rests a d
  rests_both clean =
      let one = first_rests (omega (arith, clean, second.clean)) settled in
      rests_then a b d one (second_rests clean (settled_still a b settled one))

  pub survives_looks : Survives a d (λ _. ⊥)
  survives_looks = survives_both a b d first second

  module _ (e : State) (answers : List Answer) (third : Survives d e (HoldAnswers answers)) where
    -- where they were not written
    pub rests_all : HasCleanDisk e → Rests d e → Rests a e
    rests_all clean last = rests_then a d e (rests_both (omega (arith, clean, third.clean))) last

    module _ (layout : Layout) (works : HasCleanDisk d → IsTrue d.is_open) (told : HasCleanDisk d → IsSettled b → AreAnswers (count_of layout) b.now answers) (judged : IsRegistry layout answers) where
      told_first : HasCleanDisk e → AreAnswers (count_of layout) a.now answers
      told_first late =
          let clean : HasCleanDisk d = omega (arith, late, third.clean) in
          let one = first_rests (omega (arith, clean, second.clean)) settled in
          let two = second_rests clean (settled_still a b settled one) in
          let still : b.now ≡ a.now = one.now (two.was_open (works clean)) in
          subst (λ (db : Database). AreAnswers (count_of layout) db answers) still (told clean (settled_still a b settled one))

      same_after : HasCleanDisk e → (after : Database) → AreAnswers (length answers) after answers → IsSameIn (count_of layout) a.now after
      same_after late after now at low =
          let before = told_first late in
          (rows_at answers at, before.1 at low, now.1 at (omega (arith, low, before.0)))

      pub held_before : HasCleanDisk e → HoldsRegistry layout a.now
      held_before late = (answers, told_first late, judged)

      pub same_now : HasCleanDisk e → AreAnswers (length answers) e.now answers → IsSameIn (count_of layout) a.now e.now
      same_now late = same_after late e.now

      pub survives_adoption : Survives a e (HoldSame a.now)
      survives_adoption =
          survives_then a d e (λ _. ⊥) (HoldAnswers answers) (HoldSame a.now) (λ _ db none. absurd none)
          (λ late db held. (layout, held_before late, held.0, held.1, same_after late held.0 held.2)) survives_looks third
