-- From what the parser answers to what the bytes come to.
use Rattle.std.proofs.Common.{◌≡◌, ◌∙◌, ◌≤◌, ◌<◌, ◌-◌, ◌+◌, ℕ, List, [], ◌∷◌, ◌++◌, Option, Some, None, option_map, IfSome, Result, Ok, Err, suc, refl, sym, ap, inl, inr, length, take, drop, map, min, length-append, append_assoc, arith, true, nat_le}
use Rattle.std.proofs.lemmas.Bool.Decides.{nat_tests}
use Rattle.std.proofs.lemmas.List.{append-nil, length-map, length-take, length-drop, take-append-drop, take-append-le, drop-append-le}
use Rattle.std.proofs.Math.Seq.{take-append-add}
use Rattle.httparse.proofs.GrammarLemmas.{ReadsRequest-append, print_request-append, request_unique}
use Rattle.httparse.specs.declared.spans.RequestSpans.{RequestSpans}
use Rattle.httparse.specs.declared.spans.HeaderSpan.{HeaderSpan}
use Rattle.httparse.specs.Grammar.{print_blank, print_end, print_request, print_section, print_version, RequestHead, ReadsRequest, HasNoRequest}
use Rattle.httparse.specs.Spans.{IsRequestAt, IsRequestWithin, IsWithin, RequestOverflows, header_bytes, name_and_value, span_bytes}
use Rattle.httparse.specs.declared.spans.Span.{Span}
use Rattle.goo_desk_heads.specs.declared.refusal.HeadFault.{HeadFault}
use Rattle.goo_desk_heads.specs.declared.request.RefusedHead.{RefusedHead}
use Rattle.goo_desk_heads.specs.Fields.{most_body}
use Rattle.goo_desk_heads.specs.Heads.{most_head, most_fields, HasNoHead, NeverHasHead, HasHead, TellsHead, Begins, HasBegun, after_head, length_of}
use Rattle.goo_desk_heads.specs.declared.front.Front.{Front}
use Rattle.goo_desk_heads.specs.declared.front.Front.TheVariants as front
use Rattle.goo_desk_heads.specs.declared.front.Head.{Head}
use Rattle.goo_desk_heads.specs.Requests.{Decides, Parts, decided, IsSure}

take-split : (a b : List ℕ) (n : ℕ) → length a ≤ n → take n (a ++ b) ≡ a ++ take (n - length a) b
take-split a b n fits =
    let e : length a + (n - length a) ≡ n = omega arith in
    rw e at (take-append-add a b (n - length a))

reads-fit : (bytes : List ℕ) (n : ℕ) (h : RequestHead) (rest : List ℕ) → n ≡ min (length bytes) most_head → ReadsRequest bytes h rest → length (print_request h) ≤ most_head → length (print_request h) ≤ n
reads-fit bytes n h rest size reads small = omega (arith, ap length reads.1, length-append (print_request h) rest)

-- a head that fits the front of the bytes stands there
front-reads : (bytes : List ℕ) (n : ℕ) (h : RequestHead) (rest : List ℕ) → ReadsRequest bytes h rest → length (print_request h) ≤ n → (left : List ℕ) × ReadsRequest (take n bytes) h left
front-reads bytes n h rest reads fits =
    (take (n - length (print_request h)) rest, (reads.0, ap (take n) reads.1 ∙ take-split (print_request h) rest n fits))

-- the parser has no head yet
pub no-head-yet : (bytes : List ℕ) (n : ℕ) → n ≡ min (length bytes) most_head → HasNoRequest (take n bytes) → HasNoHead bytes
no-head-yet bytes n size none h rest reads small =
    let (left, at) = front-reads bytes n h rest reads (reads-fit bytes n h rest size reads small) in absurd (none h left at)

-- it has none, and a head has no more bytes
pub no-head-in : (bytes : List ℕ) (n : ℕ) → n ≡ min (length bytes) most_head → most_head ≤ length bytes → HasNoRequest (take n bytes) → NeverHasHead bytes
no-head-in bytes n size full none more h rest reads small =
    let fits : length (print_request h) ≤ n = omega (arith, size, full, small) in
    let (left, at) = front-reads (bytes ++ more) n h rest reads fits in
    let whole : n ≤ length bytes = omega (arith, size) in
    let same : take n (bytes ++ more) ≡ take n bytes = take-append-le n bytes more whole in
    absurd (none h left (rw same at at))

-- the parser refuses
pub no-head-ever : (bytes : List ℕ) (n : ℕ) → RequestOverflows most_fields (take n bytes) → NeverHasHead bytes
no-head-ever bytes n over more h rest reads small =
    over (drop n bytes ++ more) h rest (rw (sym (append_assoc (take n bytes) (drop n bytes) more), take-append-drop) reads)

-- the parser has a head
pub head-found : (bytes : List ℕ) (n : ℕ) (headers : List HeaderSpan) (spans : RequestSpans) (h : RequestHead)
    → n ≡ min (length bytes) most_head → length headers ≡ most_fields → IsRequestWithin (take n bytes) headers spans → IsRequestAt (take n bytes) headers spans h → HasHead bytes h
head-found bytes n headers spans h size room within at =
    let fields : map (header_bytes (take n bytes)) (take spans.headers headers) ≡ map name_and_value h.fields = at.fields in
    let lengths : min spans.headers (length headers) ≡ length h.fields = simp (length-map, length-take) at (ap length fields) in
    let few : length h.fields ≤ most_fields = omega (arith, within.section.count_fits, room, lengths) in
    let small : length (print_request h) ≤ most_head = omega (arith, within.section.len_fits, at.len, length-take n bytes, size) in
    let whole = ReadsRequest-append (take n bytes) h (drop spans.len (take n bytes)) (drop n bytes) at.reads in
    ((_, rw take-append-drop at whole), small, few)

-- a head that was read stays the head, whatever follows
pub head-whatever : (front more : List ℕ) (h : RequestHead) → HasHead front h → HasHead (front ++ more) h
head-whatever front more h ((rest, reads), small, few) = ((rest ++ more, ReadsRequest-append front h rest more reads), small, few)

head-alone : (bytes : List ℕ) (h k : RequestHead) → HasHead bytes h → HasHead bytes k → h ≡ k
head-alone bytes h k ((rest, reads), small, few) ((left, at), low, less) = (request_unique bytes h k rest left reads at).0

none-and-head : (bytes : List ℕ) (h : RequestHead) → HasNoHead bytes → HasHead bytes h → ⊥
none-and-head bytes h none ((rest, reads), small, few) = let over = none h rest reads small in omega (arith, over, few)

-- the bytes come to one thing alone
pub decides-one : (bytes : List ℕ) (d e : Result Parts RefusedHead) → Decides bytes d → Decides bytes e → d ≡ e
decides-one bytes d e (inl (none, p)) (inl (never, q)) = p ∙ sym q
decides-one bytes d e (inl (none, p)) (inr (h, has, q)) = absurd (none-and-head bytes h none has)
decides-one bytes d e (inr (h, has, p)) (inl (none, q)) = absurd (none-and-head bytes h none has)
decides-one bytes d e (inr (h, has, p)) (inr (k, had, q)) = p ∙ (ap (decided bytes) (head-alone bytes h k has had) ∙ sym q)

pub never-now : (bytes : List ℕ) → NeverHasHead bytes → HasNoHead bytes
never-now bytes never = let now = never [] in rw append-nil at now

-- bytes that never have a head are sure
pub never-sure : (bytes : List ℕ) → NeverHasHead bytes → IsSure bytes
never-sure bytes never more d (inl (none, p)) = inl (never more, p)
never-sure bytes never more d (inr (h, has, p)) = absurd (none-and-head bytes h (never-now bytes never) has)

-- a head that stays, and what it comes to
head-sure : (bytes : List ℕ) (h : RequestHead) → HasHead bytes h → ((more : List ℕ) → decided (bytes ++ more) h ≡ decided bytes h) → IsSure bytes
head-sure bytes h has same more d (inl (none, p)) = absurd (none-and-head bytes h none has)
head-sure bytes h has same more d (inr (k, had, p)) =
    inr (h, head-whatever bytes more h has, p ∙ (ap (decided bytes) (head-alone bytes k h had has) ∙ sym (same more)))

pub head-fits : (bytes : List ℕ) (h : RequestHead) → HasHead bytes h → length (print_request h) ≤ length bytes
head-fits bytes h ((rest, reads), small, few) = omega (arith, ap length reads.1, length-append (print_request h) rest)

after-more : (bytes more : List ℕ) (h : RequestHead) → HasHead bytes h → after_head (bytes ++ more) h ≡ after_head bytes h ++ more
after-more bytes more h has = drop-append-le (length (print_request h)) bytes more (head-fits bytes h has)

-- a head that is refused is sure
pub refused-sure : (bytes : List ℕ) (h : RequestHead) (why : HeadFault) → HasHead bytes h → length_of h ≡ Err why → IsSure bytes
refused-sure bytes h why has is = head-sure bytes h has (λ more. rw is refl)

-- a whole body is sure
pub whole-sure : (bytes : List ℕ) (h : RequestHead) (count : ℕ) → HasHead bytes h → length_of h ≡ Ok count → count ≤ length (after_head bytes h) → IsSure bytes
whole-sure bytes h count has is fits = head-sure bytes h has (λ more.
    let more_after = after-more bytes more h has in
    let here : nat_le count (length (after_head bytes h)) ≡ true = grind (arith, nat_tests, fits) in
    let there : nat_le count (length (after_head bytes h ++ more)) ≡ true = grind (arith, nat_tests, fits, length-append (after_head bytes h) more) in
    rw (is, more_after, here, there, take-append-le count (after_head bytes h) more fits) refl)

-- where a body has not come, there are not many bytes
pub body-short : (bytes : List ℕ) (h : RequestHead) (count : ℕ) → HasHead bytes h → count ≤ most_body → length (after_head bytes h) < count → length bytes < most_head + most_body
body-short bytes h count ((rest, reads), small, few) most short =
    omega (arith, small, most, short, length-drop (length (print_request h)) bytes, head-fits bytes h ((rest, reads), small, few))

-- ---- where the parts of a head stand

span-append : (bytes more : List ℕ) (s : Span) → IsWithin (length bytes) s → span_bytes (bytes ++ more) s ≡ span_bytes bytes s
span-append bytes more s within =
    let fits : s.end - s.start ≤ length (drop s.start bytes) = omega (arith, within.0, within.1, length-drop s.start bytes) in
    ap (take (s.end - s.start)) (drop-append-le s.start bytes more (omega (arith, within.0, within.1))) ∙ take-append-le (s.end - s.start) (drop s.start bytes) more fits

-- a span of the front of the bytes covers the same of them all
pub span-of-front : (bytes : List ℕ) (n : ℕ) (s : Span) → IsWithin (length (take n bytes)) s → span_bytes bytes s ≡ span_bytes (take n bytes) s
span-of-front bytes n s within = ap (λ b. span_bytes b s) (sym (take-append-drop n bytes)) ∙ span-append (take n bytes) (drop n bytes) s within

pub within-front : (bytes : List ℕ) (n : ℕ) (s : Span) → IsWithin (length (take n bytes)) s → IsWithin (length bytes) s
within-front bytes n s within = (within.0, omega (arith, within.1, length-take n bytes))

within-append : (bytes more : List ℕ) (s : Span) → IsWithin (length bytes) s → IsWithin (length (bytes ++ more)) s
within-append bytes more s within = (within.0, omega (arith, within.1, length-append bytes more))

-- the same of a span that may be there
pub value-of-front : (bytes : List ℕ) (n : ℕ) (o : Option Span) → IfSome o (IsWithin (length (take n bytes))) → option_map (span_bytes bytes) o ≡ option_map (span_bytes (take n bytes)) o
value-of-front bytes n None within = refl
value-of-front bytes n (Some s) within = ap Some (span-of-front bytes n s within)

pub value-within-front : (bytes : List ℕ) (n : ℕ) (o : Option Span) → IfSome o (IsWithin (length (take n bytes))) → IfSome o (IsWithin (length bytes))
value-within-front bytes n None within = tt
value-within-front bytes n (Some s) within = within-front bytes n s within

value-append : (bytes more : List ℕ) (o : Option Span) → IfSome o (IsWithin (length bytes)) → option_map (span_bytes (bytes ++ more)) o ≡ option_map (span_bytes bytes) o
value-append bytes more None within = refl
value-append bytes more (Some s) within = ap Some (span-append bytes more s within)

value-within-append : (bytes more : List ℕ) (o : Option Span) → IfSome o (IsWithin (length bytes)) → IfSome o (IsWithin (length (bytes ++ more)))
value-within-append bytes more None within = tt
value-within-append bytes more (Some s) within = within-append bytes more s within

tells-on : (bytes more : List ℕ) (h : RequestHead) (head : Head) → TellsHead bytes h head → TellsHead (bytes ++ more) h head
tells-on bytes more h head tells = record {
  method_within = within-append bytes more head.method tells.method_within;
  target_within = within-append bytes more head.target tells.target_within;
  caller_within = value-within-append bytes more head.caller tells.caller_within;
  method = span-append bytes more head.method tells.method_within ∙ tells.method;
  target = span-append bytes more head.target tells.target_within ∙ tells.target;
  caller = value-append bytes more head.caller tells.caller_within ∙ tells.caller;
  ends = tells.ends;
  size = tells.size;
  few = tells.few;
}

-- what bytes begin with, the bytes and more have begun with
pub begun-on : (bytes more : List ℕ) (known : Front) → Begins bytes known → HasBegun (bytes ++ more) known
begun-on bytes more front.Unfinished begins = tt
begun-on bytes more front.Refused never = λ rest. rw (sym (append_assoc bytes more rest)) at (never (more ++ rest))
begun-on bytes more (front.Head head) (h, has, tells) = (h, head-whatever bytes more h has, tells-on bytes more h head tells)

-- ---- no bytes

abbrev after_method : RequestHead → List ℕ → List ℕ
after_method h rest = h.target ++ (32 ∷ (print_version h.minor ++ (print_end h.line_end ++ (print_section h.fields h.last ++ rest))))

-- a head has a space after its method
pub nothing-begun : Begins [] front.Unfinished
nothing-begun = (none, omega arith)
  where
    none : HasNoHead []
    none h rest reads small =
        let spaced : length (32 ∷ after_method h rest) ≡ suc (length (after_method h rest)) = refl in
        absurd (omega (arith, ap length (reads.1 ∙ print_request-append h rest), spaced, length-append (print_blank h.blank) (h.method ++ (32 ∷ after_method h rest)), length-append h.method (32 ∷ after_method h rest)))
