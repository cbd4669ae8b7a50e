-- A verifier goes on by a byte.
use Rattle.std.proofs.Common.{◌≡◌, ◌≢◌, ◌<◌, ◌+◌, ◌∙◌, ℕ, List, [], ◌∷◌, ◌++◌, length, take, drop, get_or, refl, sym, ap, subst, arith, append_assoc, append-nil, Some, None, take-append-drop}
use Rattle.std.specs.Prelude.{Option, option_and_then, IfSome, IfOk, Result, Ok, Err}
use Rattle.goo_files_streams.specs.declared.InputFault.{InputFault}
use Rattle.std.specs.Io.KnownBytes.{Consumes, IsAtEnd}
use Rattle.std.proofs.lemmas.List.{length_push, take_more}
use Rattle.std.proofs.lemmas.List.Concat.{flat_map-append}
use Rattle.std.proofs.lemmas.List.Elements.{All-nil}
use Rattle.goo_log_line.specs.Line.{LineContents, line_text}
use Rattle.goo_log_journal.specs.Place.{Place, after_line, after_lines, journal_bytes}
use Rattle.goo_log_journal.specs.declared.line_fault.LineFault.{LineFault}
use Rattle.goo_log_verify.specs.Stops.{IsStop}
use Rattle.goo_log_verify.specs.Verdicts.{Reaches, IsBad, IsBeyond, IsVerdict}
use Rattle.goo_log_verify.specs.declared.verdict.Verdict.{Verdict}
use Rattle.goo_log_verify.specs.declared.verifier.Stop.{Stop}
use Rattle.goo_log_verify.specs.declared.verifier.Stop.TheVariants as stop
use Rattle.goo_log_journal.specs.declared.line_fault.LineFault.TheVariants as fault

some_same : (p q : Place) → Some p ≡ Some q → p ≡ q
some_same p q e = cc

past : (key : List ℕ) (r : Place) (l : LineContents) (p q : Place) → Some p ≡ Some q → after_line key q l ≡ Some r
    → option_and_then (λ x. after_lines key x []) (after_line key p l) ≡ Some r
past key r l p q e h = rw (some_same p q e, h) refl

further : (key : List ℕ) (q r : Place) (l : LineContents) (ms : List LineContents) (o : Option Place)
    → ((x : Place) → after_lines key x ms ≡ Some q → after_lines key x (ms ++ l ∷ []) ≡ Some r)
    → option_and_then (λ x. after_lines key x ms) o ≡ Some q → option_and_then (λ x. after_lines key x (ms ++ l ∷ [])) o ≡ Some r
further key q r l ms None f e = absurd cc
further key q r l ms (Some x) f e = f x e

-- one line more
after_more : (key : List ℕ) (p q r : Place) (l : LineContents) (ls : List LineContents) → after_lines key p ls ≡ Some q → after_line key q l ≡ Some r
    → after_lines key p (ls ++ l ∷ []) ≡ Some r
after_more key p q r l [] e h = past key r l p q e h
after_more key p q r l (m ∷ ms) e h = further key q r l ms (after_line key p m) (λ x f. after_more key x q r l ms f h) e

module _ (key : List ℕ) (from : Place) where
  pub step_line : (bytes rest : List ℕ) (n : ℕ) (to next : Place) (l : LineContents) → Reaches key from bytes n to rest → rest ≡ line_text key l
      → after_line key to l ≡ Some next → Reaches key from (bytes ++ 10 ∷ []) (n + 1) next []
  step_line bytes rest n to next l r is h =
      let more = length_push r.lines l in
      let count = r.count in
      record {
        lines = r.lines ++ l ∷ [];
        text =
            ap (λ b. b ++ 10 ∷ []) (r.text ∙ ap (λ t. journal_bytes key r.lines ++ t) is)
            ∙ append_assoc (journal_bytes key r.lines) (line_text key l) (10 ∷ [])
            ∙ ap (λ b. journal_bytes key r.lines ++ b) (sym (append-nil (line_text key l ++ 10 ∷ [])))
            ∙ sym (flat_map-append (λ m. line_text key m ++ 10 ∷ []) r.lines (l ∷ []))
            ∙ sym (append-nil (journal_bytes key (r.lines ++ l ∷ [])));
        after = after_more key from to next l r.lines r.after h;
        count = omega (arith, more, count);
        no_end = All-nil (λ b. b ≢ 10);
      }

  bad_behind : (bytes more : List ℕ) (n : ℕ) (why : LineFault) → IsBad key from bytes n why → IsBad key from (bytes ++ more) n why
  bad_behind bytes more n why b = record {
    before = b.before;
    behind = b.behind ++ more;
    text = ap (λ t. t ++ more) b.text ∙ append_assoc b.before (10 ∷ b.behind) more;
    to = b.to;
    line = b.line;
    reaches = b.reaches;
    refuses = b.refuses;
  }

  beyond_behind : (bytes more : List ℕ) (n : ℕ) → IsBeyond key from bytes n → IsBeyond key from (bytes ++ more) n
  beyond_behind bytes more n b = record {
    before = b.before;
    behind = b.behind ++ more;
    text = ap (λ t. t ++ more) b.text ∙ append_assoc b.before b.behind more;
    to = b.to;
    line = b.line;
    reaches = b.reaches;
    beyond = b.beyond;
  }

  -- whatever stands behind it
  pub stop_behind : (bytes more : List ℕ) (s : Stop) → IsStop key from bytes s → IsStop key from (bytes ++ more) s
  stop_behind bytes more (stop.Refused n fault.Form) b = bad_behind bytes more n fault.Form b
  stop_behind bytes more (stop.Refused n fault.Order) b = bad_behind bytes more n fault.Order b
  stop_behind bytes more (stop.Refused n fault.Memory) b = tt
  stop_behind bytes more (stop.Beyond n) b = beyond_behind bytes more n b

-- ---- a piece

pub piece_more : (bytes piece : List ℕ) (i : ℕ) → i < length piece → (bytes ++ take i piece) ++ get_or piece i 0 ∷ [] ≡ bytes ++ take (i + 1) piece
piece_more bytes piece i h = append_assoc bytes (take i piece) (get_or piece i 0 ∷ []) ∙ ap (λ t. bytes ++ t) (sym (take_more piece i 0 h))

pub piece_rest : (bytes piece : List ℕ) (i : ℕ) → i < length piece
    → ((bytes ++ take i piece) ++ get_or piece i 0 ∷ []) ++ drop (i + 1) piece ≡ bytes ++ piece
piece_rest bytes piece i h =
    ap (λ t. t ++ drop (i + 1) piece) (piece_more bytes piece i h)
    ∙ append_assoc bytes (take (i + 1) piece) (drop (i + 1) piece)
    ∙ ap (λ t. bytes ++ t) (take-append-drop (i + 1) piece)

pub stop_in_piece : (key : List ℕ) (from : Place) (bytes piece : List ℕ) (i : ℕ) (s : Stop) → i < length piece
    → IsStop key from ((bytes ++ take i piece) ++ get_or piece i 0 ∷ []) s → IsStop key from (bytes ++ piece) s
stop_in_piece key from bytes piece i s h is =
    subst (λ (b : List ℕ). IsStop key from b s) (piece_rest bytes piece i h)
    (stop_behind key from ((bytes ++ take i piece) ++ get_or piece i 0 ∷ []) (drop (i + 1) piece) s is)

-- ---- a reader

-- all that it had was read
pub ended : (a b c : Option (List ℕ)) (seen part : List ℕ) (P : List ℕ → Type 0) → Consumes a b seen → Consumes b c part → part ≡ [] → IsAtEnd c
    → P seen → IfSome a P
ended None b c seen part P p q none end h = tt
ended (Some x) None c seen part P p q none end h = absurd p
ended (Some x) (Some y) None seen part P p q none end h = absurd q
ended (Some x) (Some y) (Some z) seen part P p q none end h =
    subst P (sym (p ∙ ap (λ t. seen ++ t) (q ∙ ap (λ t. t ++ z) none ∙ end) ∙ append-nil seen)) h

-- a beginning was read
begun : (a b c : Option (List ℕ)) (seen part : List ℕ) (P : List ℕ → Type 0) → Consumes a b seen → Consumes b c part
    → ((more : List ℕ) → P ((seen ++ part) ++ more)) → IfSome a P
begun None b c seen part P p q h = tt
begun (Some x) None c seen part P p q h = absurd p
begun (Some x) (Some y) None seen part P p q h = absurd q
begun (Some x) (Some y) (Some z) seen part P p q h = subst P (sym (p ∙ ap (λ t. seen ++ t) q ∙ sym (append_assoc seen part z))) (h z)

pub stopped : (key : List ℕ) (from : Place) (a b c : Option (List ℕ)) (seen part : List ℕ) (s : Stop) (r : Result Verdict InputFault)
    → Consumes a b seen → Consumes b c part → IsStop key from (seen ++ part) s
    → IfOk r (λ v. (key : List ℕ) (from : Place) (bytes : List ℕ) → IsStop key from bytes s → IsVerdict key from bytes v)
    → IfOk r (λ v. IfSome a (λ bytes. IsVerdict key from bytes v))
stopped key from a b c seen part s (Ok v) p q is h =
    begun a b c seen part (λ bytes. IsVerdict key from bytes v) p q
    (λ more. h key from ((seen ++ part) ++ more) (stop_behind key from (seen ++ part) more s is))
stopped key from a b c seen part s (Err e) p q is h = tt
