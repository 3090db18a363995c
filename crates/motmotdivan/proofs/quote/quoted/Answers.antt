-- `quoted` meets its contract: 10, 8 and 18 in their order, and rating of the numbers that were converted.
use Rattle.std.proofs.Common.{◌≡◌, ℕ, ◌*◌, ◌&&◌, false, cond, eqb, List, ℤ, length, get_or, sym, ap, ◌∙◌, subst, arith, length-take-le, take_all, eq-eqb, ne_eqb}
use Rattle.std.proofs.lemmas.Result.{err_from_is_err_and}
use Rattle.encoding.specs.Decode.{lent_codelist, holds_codelist}
use Rattle.rules.specs.Rate.{rate_of}
use Rattle.motmotdivan.specs.declared.codes.Refusal.TheVariants.{Length, Fraction}
use Rattle.motmotdivan.specs.Record.{fraction, ranges_of}
use Rattle.motmotdivan.specs.Calls.{refusal, answer_of, rate_answer}
use Rattle.motmotdivan.specs.Views.{Whole, Stopped, Converted}
use Rattle.motmotdivan.proofs.Answers.{held, refused-held, ten-given, eight-given, eighteen-given, rating-given}
use Rattle.motmotdivan.proofs.Reading.{all_read, first-fraction}
use Rattle.motmotdivan.proofs.quote.quoted.Goals as goal
use Rattle.motmotdivan.proofs.quote.quoted.Goals.{then-n-lt1-via-then-n-lt1, then-n-lt1-via-else-n-lt1+then-n-gt8}
use Rattle.motmotdivan.proofs.quote.quoted.Goals.{then-ranges-ne-RANGES_LENGTH-via-then-ranges-ne-RANGES_LENGTH, then-ranges-ne-RANGES_LENGTH-via-else-ranges-ne-RANGES_LENGTH+then-room-ne-RESULT_LENGTH}

pub returns-then-state-ne-LENGTH : goal.returns-then-state-ne-LENGTH
returns-then-state-ne-LENGTH c =
    let a = c.args in
    ten-given a.state.now a.ranges.now a.room (λ k e. c.if-state-ne-LENGTH.true (held a.state.now k e).long)

pub returns-then-n-lt1 : goal.returns-then-n-lt1
returns-then-n-lt1 c =
    let a = c.args in
    ten-given a.state.now a.ranges.now a.room (λ k e.
    let h = held a.state.now k e in
    elim c.then-n-lt1.branch [
      | then-n-lt1-via-then-n-lt1 w ↦ omega (arith, h.few, h.factors, c.from-n.ensures, w.if-n-lt1.true)
      | then-n-lt1-via-else-n-lt1+then-n-gt8 w ↦ omega (arith, h.few, h.factors, c.from-n.ensures, w.if-n-gt8.true)
    ])

pub returns-then-ranges-ne-RANGES_LENGTH : goal.returns-then-ranges-ne-RANGES_LENGTH
returns-then-ranges-ne-RANGES_LENGTH c =
    let a = c.args in
    let other : (eqb (length a.ranges.now) 128 && eqb a.room 192) ≡ false =
    elim c.then-ranges-ne-RANGES_LENGTH.branch [
      | then-ranges-ne-RANGES_LENGTH-via-then-ranges-ne-RANGES_LENGTH w ↦ rw (ne_eqb (length a.ranges.now) 128 w.if-ranges-ne-RANGES_LENGTH.true)
      | then-ranges-ne-RANGES_LENGTH-via-else-ranges-ne-RANGES_LENGTH+then-room-ne-RESULT_LENGTH w ↦ rw (eq-eqb (length a.ranges.now) 128 w.if-ranges-ne-RANGES_LENGTH.false, ne_eqb a.room 192 w.if-room-ne-RESULT_LENGTH.true)
    ] in
    rw c.held.ensures (refused-held (holds_codelist a.state.now) Length ∙ eight-given a.state.now a.ranges.now a.room other)

-- The lowest factor with a fraction
stopped : (s x : List ℕ) (room n m a : ℕ) (xs : List ℤ) → length x ≡ 128 → room ≡ 192 → n ≡ get_or s 0 0 → m ≡ 2 * n → Stopped x xs m a
    → cond (holds_codelist s) (refusal 18 a) (refusal 10 0) ≡ rate_answer s x room
stopped s x room n m a xs p q f l w =
    let found : ranges_of x n ≡ fraction a =
    first-fraction x xs w.index 0 n w.before w.stops (omega arith) (omega (arith, w.inside)) ∙ ap fraction (sym w.factor) in
    eighteen-given s x room p q a (λ k e. ap (ranges_of x) (sym (f ∙ (held s k e).factors)) ∙ found)

-- All of them are whole
rated : (s x : List ℕ) (room n m : ℕ) (xs : List ℤ) → length x ≡ 128 → room ≡ 192 → n ≡ get_or s 0 0 → m ≡ 2 * n → (length xs ≡ m) × Whole x xs m
    → answer_of (rate_of (lent_codelist s) xs) ≡ rate_answer s x room
rated s x room n m xs p q f l w =
    let all = all_read x xs 0 n (λ j h. w.1 j (omega arith)) (omega (arith, w.0)) in
    rating-given s x room p q xs (λ k e. (all.exact, (ap (ranges_of x) (sym (f ∙ (held s k e).factors)) ∙ all.read, all.near ∙ take_all (2 * n) xs (omega (arith, w.0)))))

pub returns-in-Err : goal.returns-in-Err
returns-in-Err c =
    let a = c.args in
    rw c.held-in-Err.ensures (refused-held (holds_codelist a.state.now) (Fraction c.in-Err.factor)
    ∙ stopped a.state.now a.ranges.now a.room c.from-n.result _ _ _ c.if-ranges-ne-RANGES_LENGTH.false c.if-room-ne-RESULT_LENGTH.false c.from-n.ensures
    (length-take-le _ _ (omega (arith, c.if-n-gt8.false))) c.in-Err.ensures)

pub returns-in_err-rate_at : goal.returns-in_err-rate_at
returns-in_err-rate_at c =
    let a = c.args in
    let p = err_from_is_err_and c.from_residual.result c.from_residual.ensures.1 in
    rw (p.1, p.2) (ap answer_of c.in_err-rate_at.ensures
    ∙ rated a.state.now a.ranges.now a.room c.from-n.result _ _ c.if-ranges-ne-RANGES_LENGTH.false c.if-room-ne-RESULT_LENGTH.false c.from-n.ensures
    (length-take-le _ _ (omega (arith, c.if-n-gt8.false))) (subst (Converted _ _ _) c.in_default.is c.numbers_of.ensures))

pub returns : goal.returns
returns c =
    let a = c.args in
    ap answer_of c.in_ok-rate_at.ensures
    ∙ rated a.state.now a.ranges.now a.room c.from-n.result _ _ c.if-ranges-ne-RANGES_LENGTH.false c.if-room-ne-RESULT_LENGTH.false c.from-n.ensures
    (length-take-le _ _ (omega (arith, c.if-n-gt8.false))) (subst (Converted _ _ _) c.in_default.is c.numbers_of.ensures)
