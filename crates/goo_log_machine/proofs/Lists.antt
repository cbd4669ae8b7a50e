-- Lists that stand at the end of others.
use Rattle.std.proofs.Common.{◌≡◌, ◌∙◌, List, [], ◌∷◌, ◌++◌, refl, sym, ap, append_assoc}
use Rattle.goo_log_machine.specs.Machine.{stacked}
use Rattle.goo_log_machine.specs.Holding.{IsEndOf}

module _ {A : Type 0} where
  pub end_is : (xs : List A) → IsEndOf xs xs
  end_is xs = ([], refl)

  pub end_more : (q : A) (xs ys : List A) → IsEndOf xs ys → IsEndOf xs (q ∷ ys)
  end_more q xs ys e = (q ∷ e.0, ap (λ (l : List A). q ∷ l) e.1)

  pub end_end : (xs ys zs : List A) → IsEndOf xs ys → IsEndOf ys zs → IsEndOf xs zs
  end_end xs ys zs e f = (f.0 ++ e.0, append_assoc f.0 e.0 xs ∙ ap (λ (l : List A). f.0 ++ l) e.1 ∙ f.1)

  pub end_same : (xs ys : List A) → xs ≡ ys → IsEndOf xs ys
  end_same xs ys e = ([], e)

  -- what stood below stands at the end still
  pub end_stacked : (ws qs : List A) → IsEndOf qs (stacked ws qs)
  end_stacked [] qs = end_is qs
  end_stacked (w ∷ ws) qs = end_end qs (w ∷ qs) (stacked ws (w ∷ qs)) (end_more w qs qs (end_is qs)) (end_stacked ws (w ∷ qs))

  pub stacked-append : (ws vs qs : List A) → stacked (ws ++ vs) qs ≡ stacked vs (stacked ws qs)
  stacked-append [] vs qs = refl
  stacked-append (w ∷ ws) vs qs = stacked-append ws vs (w ∷ qs)

  pub end_queued : (ws vs qs : List A) → IsEndOf (stacked ws qs) (stacked (ws ++ vs) qs)
  end_queued ws vs qs =
      end_end (stacked ws qs) (stacked vs (stacked ws qs)) (stacked (ws ++ vs) qs)
      (end_stacked vs (stacked ws qs)) (end_same _ _ (sym (stacked-append ws vs qs)))
