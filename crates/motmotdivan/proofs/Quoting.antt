-- What is promised of the two calls: `quoting`.
use Rattle.std.proofs.Common.{◌≡◌, ℕ, ◌+◌, ◌-◌, ◌*◌, ◌%◌, ◌<◌, ◌≤◌, List, length, get_or, take, replicate, ℤ, pos, sym, refl, ap, ◌∙◌, subst, arith, eq-eqb, ne_eqb}
use mathlib.Core.List.{Memᴰ}
use mathlib.Core.Option.{none, some}
use lib.Ieee.{binary64, of_bits, of_int, to_bits}
use Rattle.codelist.specs.declared.Codelist.{Codelist}
use Rattle.codelist.proofs.Ratable.{well-formed-ratable}
use Rattle.rules.specs.declared.Limits.{Limits}
use Rattle.rules.specs.InFull as rating
use Rattle.rules.specs.declared.Refusal as rules
use Rattle.rules.specs.Rate as Rate
use Rattle.rules.specs.Rate.{rated, rate_of}
use Rattle.rules.specs.Refused.{RefusedFor}
use Rattle.rules.proofs.Sound.{sound}
use Rattle.engine.specs.declared.Refusal as engine
use Rattle.engine.specs.Engine.{outcome_of, rated_of}
use Rattle.engine.proofs.Demands.{demands}
use Rattle.encoding.specs.Bytes.{low_first}
use Rattle.encoding.proofs.Decoded.{decodes-exactly}
use Rattle.motmotdivan.specs.Doubles.{double_of}
use Rattle.motmotdivan.specs.Record.{pattern_at, numbers, fraction, ranges_of, result_numbers, result_record}
use Rattle.motmotdivan.specs.Calls.{code_of, quoted_rate_numbers, Answer, result, refusal, answered, answer_of, on_read}
use Rattle.motmotdivan.specs.Calls.{answer_code, answer_record, rate_answer, rate_code, rate_record}
use Rattle.motmotdivan.specs.Quoting.{Exactly, LeftByLoad, Given, OtherLength, LowestFraction, Coded, engine_code, SoundQuote, Quoting}
use Rattle.motmotdivan.proofs.Cases.{Fit, Came, no-codelist, other_length, by_fraction, by-rating, read_answer, came, ListedAnswer, listed}
use Rattle.motmotdivan.proofs.Exact.{read-sound, read-complete, double-exactly}
use Rattle.motmotdivan.proofs.Loading.{coded, elsewhere, refused-code, zero-sound, zero-complete, in_list, kept, left-sound, left-complete}
use Rattle.motmotdivan.proofs.Lowest.{From, lowest-found, lowest-read, read-many, same_read}
use Rattle.motmotdivan.proofs.Results.{no_result}
use Rattle.motmotdivan.proofs.Small.{small_result, many-result}

-- ---- answers and their codes
-- another answer than a refusal, and two refusals of one code
not-result : {X : Type 0} {l : Limits} {n p : ℕ} → result l ≡ refusal n p → X
not-result e = absurd (let z : ◌≡◌ {A = ℕ} 0 1 = cc in omega arith)

zero-result : (o : Answer) → ListedAnswer o → answer_code o ≡ 0 → (l : Limits) × (o ≡ result l)
zero-result (result l) h e = (l, refl)
zero-result (refusal n p) h e = absurd (omega (arith, h.some))

one-refusal : (o : Answer) → ListedAnswer o → (n p : ℕ) → 1 ≤ n → n < 100 → answer_code o ≡ code_of n p → o ≡ refusal n p
one-refusal (result l) h n p a b e = absurd (omega arith)
one-refusal (refusal m q) h n p a b e =
    let u : m ≡ n = omega (arith, h.two_digits) in
    let v : q ≡ p = omega (arith, h.two_digits) in
    λ i. refusal (u i) (v i)

not-zero : (o : Answer) → ListedAnswer o → ¬ (answer_code o ≡ 0) → (Memᴰ (answer_code o % 100) quoted_rate_numbers) × (answer_record o ≡ replicate 192 0)
not-zero (result l) h e = absurd (e refl)
not-zero (refusal n p) h e =
    let m : (n + 100 * p) % 100 ≡ n = omega (arith, h.two_digits) in
    (rw m h.in_list, refl)

-- ---- where rating is asked
-- what rating gives is limits, or a refusal of its own
rated-answer : (o : rating.Outcome) (k l : Limits) → answered o k ≡ result l → (o ≡ rating.Rated) × (k ≡ l)
rated-answer rating.Rated k l e = (refl, cc)
rated-answer (rating.Refused q) k l e = not-result (sym e)

no-eighteen : (q : rules.Refusal) → ¬ (Rate.number_of q ≡ 18)
no-eighteen rules.TheVariants.NoCodelist e = omega arith
no-eighteen rules.TheVariants.RangeCount e = omega arith
no-eighteen (rules.TheVariants.BadRange a) e = omega arith
no-eighteen (rules.TheVariants.Divisor k) e = omega arith
no-eighteen (rules.TheVariants.Overflow k) e = omega arith

no_fraction : (o : rating.Outcome) (k : Limits) (a : ℕ) → ¬ (answered o k ≡ refusal 18 a)
no_fraction rating.Rated k a e = not-result e
no_fraction (rating.Refused q) k a e = let n : Rate.number_of q ≡ 18 = cc in no-eighteen q n

-- of what a desk holds it gives neither 10 nor 8: the codelist is well formed, and there are two numbers for each factor
module _ (c : Codelist) (d x : List ℕ) (room : ℕ) (f : Fit c d x room) (xs : List ℤ) (n : ranges_of x c.factors ≡ numbers xs) where
  listed-for : (q : rules.Refusal) → (rate_of c xs).outcome ≡ rating.Refused q → RefusedFor c xs q
  unfolding rated_of
  listed-for q e = (demands.rate-refused-listed (record { codelist = c }) xs q).0 (ap outcome_of e)

  no-ten : (q : rules.Refusal) → RefusedFor c xs q → ¬ (Rate.number_of q ≡ 10)
  no-ten rules.TheVariants.NoCodelist h e = h (well-formed-ratable ((decodes-exactly.where-encoded d c).0 f.held).0)
  no-ten rules.TheVariants.RangeCount h e = omega arith
  no-ten (rules.TheVariants.BadRange a) h e = omega arith
  no-ten (rules.TheVariants.Divisor k) h e = omega arith
  no-ten (rules.TheVariants.Overflow k) h e = omega arith

  no-eight : (q : rules.Refusal) → RefusedFor c xs q → ¬ (Rate.number_of q ≡ 8)
  no-eight rules.TheVariants.NoCodelist h e = omega arith
  no-eight rules.TheVariants.RangeCount h e = h.1 (read-many x 0 c.factors xs n)
  no-eight (rules.TheVariants.BadRange a) h e = omega arith
  no-eight (rules.TheVariants.Divisor k) h e = omega arith
  no-eight (rules.TheVariants.Overflow k) h e = omega arith

  neither : (m p : ℕ) → ((q : rules.Refusal) → RefusedFor c xs q → ¬ (Rate.number_of q ≡ m)) → ¬ (answer_of (rate_of c xs) ≡ refusal m p)
  neither m p h = go (rate_of c xs).outcome refl
    where
      go : (o : rating.Outcome) → (rate_of c xs).outcome ≡ o → ¬ (answered o (rate_of c xs).limits ≡ refusal m p)
      go rating.Rated e t = not-result t
      go (rating.Refused q) e t = let k : Rate.number_of q ≡ m = cc in h q (listed-for q e) k

-- an accepted rating
record Accepted (d x : List ℕ) (room : ℕ) (l : Limits) : Type 0 where
  codelist : Codelist
  fit : Fit codelist d x room
  ends : List ℤ
  read : ranges_of x codelist.factors ≡ numbers ends
  rating : rate_of codelist ends ≡ rated l

accepted : (d x : List ℕ) (room : ℕ) (l : Limits) → rate_answer d x room ≡ result l → Accepted d x room l
accepted d x room l h = go (came d x room) h
  where
    go : {o : Answer} → Came d x room o → o ≡ result l → Accepted d x room l
    go (no-codelist n e) t = not-result (sym t ∙ e)
    go (other_length c n o e) t = not-result (sym t ∙ e)
    go (by_fraction c f a r e) t = not-result (sym t ∙ e)
    go (by-rating c f xs r e) t =
        let w = rated-answer (rate_of c xs).outcome (rate_of c xs).limits l (sym e ∙ t) in
        record { codelist = c; fit = f; ends = xs; read = r; rating = λ i. record { outcome = w.0 i; limits = w.1 i } }

module _ (d x r : List ℕ) where
  given : {c : Codelist} → Given c d x r → Fit c d x (length r)
  given g = record { held = g.held; ranges = g.ranges; result = g.result }

  fits : {c : Codelist} → Fit c d x (length r) → Given c d x r
  fits f = record { held = f.held; ranges = f.ranges; result = f.result }

  -- the record of a result of the right length
  record-in : length r ≡ 192 → rate_record d x r ≡ answer_record (rate_answer d x (length r))
  unfolding rate_record
  record-in l = rw (eq-eqb (length r) 192 l)

  record-out : ¬ (length r ≡ 192) → rate_record d x r ≡ r
  unfolding rate_record
  record-out l = rw (ne_eqb (length r) 192 l)

  record_of : (l : Limits) → Accepted d x (length r) l → rate_answer d x (length r) ≡ result l → rate_record d x r ≡ result_record l
  record_of l a e = record-in a.fit.result ∙ ap answer_record e

  -- ---- 10 and 8
  ten-sound : rate_code d x r ≡ code_of 10 0 → ¬ (LeftByLoad d)
  unfolding rate_code
  ten-sound e w = go (came d x (length r)) (one-refusal (rate_answer d x (length r)) (listed d x (length r)) 10 0 (omega arith) (omega arith) e)
    where
      go : {o : Answer} → Came d x (length r) o → ¬ (o ≡ refusal 10 0)
      go (no-codelist n e) t = let z : none ≡ some _ = sym n ∙ (left-complete d w).1 in let k : ◌≡◌ {A = ℕ} 0 1 = cc in omega arith
      go (other_length c n o e) t = let n : ◌≡◌ {A = ℕ} 8 10 = cc in omega arith
      go (by_fraction c f a q e) t = let n : ◌≡◌ {A = ℕ} 18 10 = cc in omega arith
      go (by-rating c f xs q e) t = neither c d x (length r) f xs q 10 0 (no-ten c d x (length r) f xs q) (sym e ∙ t)

  ten-complete : ¬ (LeftByLoad d) → rate_code d x r ≡ code_of 10 0
  unfolding rate_code
  ten-complete h = go (came d x (length r))
    where
      go : {o : Answer} → Came d x (length r) o → answer_code o ≡ code_of 10 0
      go (no-codelist n e) = ap answer_code e
      go (other_length c n o e) = absurd (h (left-sound d (c, n)))
      go (by_fraction c f a q e) = absurd (h (left-sound d (c, f.held)))
      go (by-rating c f xs q e) = absurd (h (left-sound d (c, f.held)))

  eight-sound : rate_code d x r ≡ code_of 8 0 → OtherLength d x r
  unfolding rate_code
  eight-sound e = go (came d x (length r)) (one-refusal (rate_answer d x (length r)) (listed d x (length r)) 8 0 (omega arith) (omega arith) e)
    where
      go : {o : Answer} → Came d x (length r) o → o ≡ refusal 8 0 → OtherLength d x r
      go (no-codelist n e) t = absurd (let n : ◌≡◌ {A = ℕ} 10 8 = cc in omega arith)
      go (other_length c n o e) t = record { codelist = c; held = n; other = o }
      go (by_fraction c f a q e) t = absurd (let n : ◌≡◌ {A = ℕ} 18 8 = cc in omega arith)
      go (by-rating c f xs q e) t = absurd (neither c d x (length r) f xs q 8 0 (no-eight c d x (length r) f xs q) (sym e ∙ t))

  eight-complete : OtherLength d x r → rate_code d x r ≡ code_of 8 0
  unfolding rate_code
  eight-complete h = go (came d x (length r))
    where
      go : {o : Answer} → Came d x (length r) o → answer_code o ≡ code_of 8 0
      go (no-codelist n e) = absurd (let z : none ≡ some _ = sym n ∙ h.held in let k : ◌≡◌ {A = ℕ} 0 1 = cc in omega arith)
      go (other_length c n o e) = ap answer_code e
      go (by_fraction c f a q e) = absurd (h.other (f.ranges, f.result))
      go (by-rating c f xs q e) = absurd (h.other (f.ranges, f.result))

  -- ---- 18
  fraction_sound : (a : ℕ) → rate_code d x r ≡ code_of 18 a → LowestFraction d x r a
  unfolding rate_code
  fraction_sound a e = go (came d x (length r)) (one-refusal (rate_answer d x (length r)) (listed d x (length r)) 18 a (omega arith) (omega arith) e)
    where
      go : {o : Answer} → Came d x (length r) o → o ≡ refusal 18 a → LowestFraction d x r a
      go (no-codelist n e) t = absurd (let n : ◌≡◌ {A = ℕ} 10 18 = cc in omega arith)
      go (other_length c n o e) t = absurd (let n : ◌≡◌ {A = ℕ} 8 18 = cc in omega arith)
      go (by-rating c f xs q e) t = absurd (no_fraction (rate_of c xs).outcome (rate_of c xs).limits a (sym e ∙ t))
      go (by_fraction c f b q e) t =
          let n : b ≡ a = cc in
          let w = lowest-found x 0 c.factors a (q ∙ ap fraction n) in
          let i : a - 1 ≡ w.index = omega (arith, w.number) in
          record {
            codelist = c;
            given = fits f;
            factor = (omega (arith, w.number), omega (arith, w.number, w.inside));
            fraction = rw i w.found;
            lower = λ b l h. w.lower (b - 1) (omega arith) (omega (arith, w.number));
          }

  fraction-complete : (a : ℕ) → LowestFraction d x r a → rate_code d x r ≡ code_of 18 a
  unfolding rate_code
  fraction-complete a f =
      let c = f.codelist in
      let w : From x 0 c.factors a =
      record {
        index = a - 1;
        number = omega (arith, f.factor);
        inside = (omega arith, omega (arith, f.factor));
        found = f.fraction;
        lower = λ j l h.
            let e : j + 1 - 1 ≡ j = omega arith in
            rw e at (f.lower (j + 1) (omega arith) (omega arith));
      } in
      ap answer_code (read_answer d x (length r) (given f.given) ∙ ap (on_read c) (lowest-read x 0 c.factors a w))

  -- ---- the engine
  module _ (c : Codelist) (xs : List ℤ) (g : Given c d x r) (n : ranges_of x c.factors ≡ numbers xs) where
    answer-is : rate_answer d x (length r) ≡ answer_of (rate_of c xs)
    answer-is = read_answer d x (length r) (given g) ∙ ap (on_read c) n

    code_same : (o : rating.Outcome) (l : Limits) → answer_code (answered o l) ≡ engine_code (outcome_of o)
    code_same rating.Rated l = refl
    code_same (rating.Refused q) l = refl

    record_same : answer_record (answer_of (rate_of c xs)) ≡ result_record (rate_of c xs).limits
    unfolding rated_of
    record_same = go (rate_of c xs).outcome refl
      where
        go : (o : rating.Outcome) → (rate_of c xs).outcome ≡ o → answer_record (answered o (rate_of c xs).limits) ≡ result_record (rate_of c xs).limits
        go rating.Rated e = refl
        go (rating.Refused q) e =
            let z = demands.rate-zero (record { codelist = c }) xs (engine.TheVariants.Rate q) (ap outcome_of e) in
            sym (ap result_record z ∙ no_result)

    engine-code : rate_code d x r ≡ engine_code (rated_of (record { codelist = c }) xs).outcome
    unfolding rate_code rated_of
    engine-code = ap answer_code answer-is ∙ code_same (rate_of c xs).outcome (rate_of c xs).limits

    engine-record : rate_record d x r ≡ result_record (rated_of (record { codelist = c }) xs).limits
    unfolding rated_of
    engine-record = record-in g.result ∙ ap answer_record answer-is ∙ record_same

-- doubles past the last factor
past : (c : Codelist) (d x y r : List ℕ) → Given c d x r → length y ≡ 128 → take (16 * c.factors) x ≡ take (16 * c.factors) y
    → (rate_code d x r ≡ rate_code d y r) × (rate_record d x r ≡ rate_record d y r)
unfolding rate_code
past c d x y r g l e =
    let h : Given c d y r = record { held = g.held; ranges = l; result = g.result } in
    let s : rate_answer d x (length r) ≡ rate_answer d y (length r) =
    read_answer d x (length r) (given d x r g)
    ∙ ap (on_read c) (same_read x y (16 * c.factors) 0 c.factors e (omega arith))
    ∙ sym (read_answer d y (length r) (given d y r h)) in
    (ap answer_code s, record-in d x r g.result ∙ ap answer_record s ∙ sym (record-in d y r g.result))

-- each double of a result
exact : (d x r : List ℕ) (l : Limits) → rate_answer d x (length r) ≡ result l → (k : ℕ) → k < 24
    → Exactly (of_bits binary64 (pattern_at (rate_record d x r) k)) (get_or (result_numbers l) k (pos 0))
unfolding result_record
exact d x r l e k h =
    let a = accepted d x (length r) l e in
    let s = small_result a.codelist a.ends l a.rating k in
    subst (λ (b : List ℕ). Exactly (of_bits binary64 (pattern_at b k)) (get_or (result_numbers l) k (pos 0))) (sym (record_of d x r l a e))
    (double-exactly (result_numbers l) k (omega (arith, many-result a.codelist a.ends l a.rating)) (omega (arith, s)))

rate-zero : (d x r : List ℕ) → rate_code d x r ≡ 0 → (l : Limits) × (rate_answer d x (length r) ≡ result l)
unfolding rate_code
rate-zero d x r e = zero-result (rate_answer d x (length r)) (listed d x (length r)) e

rate-coded : (d x r : List ℕ) (n p : ℕ) → rate_answer d x (length r) ≡ refusal n p → Coded (rate_code d x r) n p
unfolding rate_code
rate-coded d x r n p e =
    let h = subst ListedAnswer e (listed d x (length r)) in
    subst (λ (c : ℕ). Coded c n p) (sym (ap answer_code e)) (coded n p h.two_digits h.few)

sound-quote : (d x r : List ℕ) → rate_code d x r ≡ 0 → SoundQuote d x r
sound-quote d x r e =
    let z = rate-zero d x r e in
    let a = accepted d x (length r) z.0 z.1 in
    record {
      codelist = a.codelist;
      given = fits d x r a.fit;
      ends = a.ends;
      read = a.read;
      limits = z.0;
      written = record_of d x r z.0 a z.1;
      sound = sound a.codelist a.ends z.0 a.rating;
    }

-- THE PROMISES
pub quoting : Quoting
unfolding rate_code double_of of_int to_bits low_first
quoting = record {
  whole-exactly = λ p z. (read-sound (of_bits binary64 p) z, read-complete (of_bits binary64 p) z);
  exact-result = exact;
  plus-zero = refl;
  left-by-load = λ d. (left-sound d, left-complete d);
  ten = λ d x r. (ten-sound d x r, ten-complete d x r);
  eight = λ d x r. (eight-sound d x r, eight-complete d x r);
  eighteen = λ d x r a. (fraction_sound d x r a, fraction-complete d x r a);
  past-last = past;
  load-accepted = λ d s. (zero-sound d s, λ p. zero-complete d s p.0 p.1);
  load-refused = refused-code;
  load-elsewhere = elsewhere;
  rate-accepted = λ d x r. (rate-zero d x r, λ p. ap answer_code p.1);
  rate-refused = rate-coded;
  load-numbers = in_list;
  rate-numbers = λ d x r h. (not-zero (rate_answer d x (length r)) (listed d x (length r)) h).0;
  load_kept = kept;
  rate-zeros = λ d x r h l. record-in d x r l ∙ (not-zero (rate_answer d x (length r)) (listed d x (length r)) h).1;
  rate-kept = record-out;
  same-as-engine = λ c d x r xs g n. (engine-code d x r c xs g n, engine-record d x r c xs g n);
  sound = sound-quote;
}
