-- `increments::total::Total::plus` meets its contract. Assumes nothing.
use mathlib.Core.Path.{◌≡◌, ap, ◌∙◌}
use native.Mathlib.Omega.{arith}
use lib.IntN.{ℤ, pos, ◌+ℤ◌, ◌*ℤ◌}
use mir.Syntax.{w64}
use mir.Val.{to_z, of_z}
use Rattle.exact.proofs.Machine.{fits-abs}
use Rattle.range.proofs.Fitting.{InLimit}
use Rattle.increments.specs.declared.total.Total.{Total}
use Rattle.increments.specs.Steps.{Room}
use Rattle.increments.proofs.Totals.{quotient, remainder, quotient-few, remainder-few, few-read, Near, quotient-times, remainder-times}
use Rattle.increments.proofs.Totals.{multiple-few, whole-more, rest_more}
use Rattle.increments.proofs.total.Total.plus.Goals as goal

pub floor_div-q-requires : goal.floor_div-q-requires
floor_div-q-requires c =
    let e : ℤ = c.args.e in
    let within : InLimit e = c.requires.e_bound in
    let e-read : to_z w64 (of_z w64 e) ≡ e = few-read e (omega (arith, within)) in
    rw e-read (omega (arith, within))

pub overflow_mul-result : goal.overflow_mul-result
overflow_mul-result c =
    let e : ℤ = c.args.e in
    let d : ℤ = c.args.d in
    let within : InLimit e = c.requires.e_bound in
    let near : Near d = c.requires.d_bound in
    let e-read : to_z w64 (of_z w64 e) ≡ e = few-read e (omega (arith, within)) in
    let d-read : to_z w64 (of_z w64 d) ≡ d = few-read d (omega (arith, near)) in
    let quotient-read : to_z w64 (of_z w64 (quotient e)) ≡ quotient e = few-read (quotient e) (omega (arith, quotient-few e within)) in
    let divided : c.floor_div-q.result ≡ quotient c.args.e = c.floor_div-q.ensures ∙ ap quotient e-read in
    simp (divided, quotient-read, d-read) (fits-abs (quotient e *ℤ d) (omega (arith, quotient-times e d within near)))

pub overflow_add-result : goal.overflow_add-result
overflow_add-result c =
    let t : Total = c.args.self in
    let e : ℤ = c.args.e in
    let d : ℤ = c.args.d in
    let room : Room t = c.requires.room in
    let within : InLimit e = c.requires.e_bound in
    let near : Near d = c.requires.d_bound in
    let e-read : to_z w64 (of_z w64 e) ≡ e = few-read e (omega (arith, within)) in
    let d-read : to_z w64 (of_z w64 d) ≡ d = few-read d (omega (arith, near)) in
    let quotient-read : to_z w64 (of_z w64 (quotient e)) ≡ quotient e = few-read (quotient e) (omega (arith, quotient-few e within)) in
    let times-read : to_z w64 (of_z w64 (quotient e *ℤ d)) ≡ quotient e *ℤ d = few-read (quotient e *ℤ d) (omega (arith, quotient-times e d within near)) in
    let divided : c.floor_div-q.result ≡ quotient c.args.e = c.floor_div-q.ensures ∙ ap quotient e-read in
    let x = quotient e *ℤ d in
    simp (divided, quotient-read, d-read, times-read, few-read t.whole (omega (arith, room.whole)))
    (fits-abs (t.whole +ℤ x) (omega (arith, whole-more t room x (omega (arith, quotient-times e d within near)))))

pub overflow_mul-result-2 : goal.overflow_mul-result-2
overflow_mul-result-2 c =
    let e : ℤ = c.args.e in
    let d : ℤ = c.args.d in
    let within : InLimit e = c.requires.e_bound in
    let near : Near d = c.requires.d_bound in
    let e-read : to_z w64 (of_z w64 e) ≡ e = few-read e (omega (arith, within)) in
    let quotient-read : to_z w64 (of_z w64 (quotient e)) ≡ quotient e = few-read (quotient e) (omega (arith, quotient-few e within)) in
    let divided : c.floor_div-q.result ≡ quotient c.args.e = c.floor_div-q.ensures ∙ ap quotient e-read in
    simp (divided, quotient-read) (fits-abs (pos 10000 *ℤ quotient e) (omega (arith, multiple-few e d within near)))

pub overflow_sub-result : goal.overflow_sub-result
overflow_sub-result c =
    let e : ℤ = c.args.e in
    let d : ℤ = c.args.d in
    let within : InLimit e = c.requires.e_bound in
    let near : Near d = c.requires.d_bound in
    let e-read : to_z w64 (of_z w64 e) ≡ e = few-read e (omega (arith, within)) in
    let quotient-read : to_z w64 (of_z w64 (quotient e)) ≡ quotient e = few-read (quotient e) (omega (arith, quotient-few e within)) in
    let multiple-read : to_z w64 (of_z w64 (pos 10000 *ℤ quotient e)) ≡ pos 10000 *ℤ quotient e = few-read (pos 10000 *ℤ quotient e) (omega (arith, multiple-few e d within near)) in
    let divided : c.floor_div-q.result ≡ quotient c.args.e = c.floor_div-q.ensures ∙ ap quotient e-read in
    simp (divided, quotient-read, e-read, multiple-read) (fits-abs (remainder e) (omega (arith, remainder-few e within)))

pub overflow_mul-result-3 : goal.overflow_mul-result-3
overflow_mul-result-3 c =
    let e : ℤ = c.args.e in
    let d : ℤ = c.args.d in
    let within : InLimit e = c.requires.e_bound in
    let near : Near d = c.requires.d_bound in
    let e-read : to_z w64 (of_z w64 e) ≡ e = few-read e (omega (arith, within)) in
    let d-read : to_z w64 (of_z w64 d) ≡ d = few-read d (omega (arith, near)) in
    let quotient-read : to_z w64 (of_z w64 (quotient e)) ≡ quotient e = few-read (quotient e) (omega (arith, quotient-few e within)) in
    let multiple-read : to_z w64 (of_z w64 (pos 10000 *ℤ quotient e)) ≡ pos 10000 *ℤ quotient e = few-read (pos 10000 *ℤ quotient e) (omega (arith, multiple-few e d within near)) in
    let remainder-read : to_z w64 (of_z w64 (remainder e)) ≡ remainder e = few-read (remainder e) (omega (arith, remainder-few e within)) in
    let divided : c.floor_div-q.result ≡ quotient c.args.e = c.floor_div-q.ensures ∙ ap quotient e-read in
    simp (divided, quotient-read, e-read, d-read, multiple-read, remainder-read)
    (fits-abs (remainder e *ℤ d) (omega (arith, remainder-times e d within near)))

pub overflow_add-result-2 : goal.overflow_add-result-2
overflow_add-result-2 c =
    let t : Total = c.args.self in
    let e : ℤ = c.args.e in
    let d : ℤ = c.args.d in
    let room : Room t = c.requires.room in
    let within : InLimit e = c.requires.e_bound in
    let near : Near d = c.requires.d_bound in
    let e-read : to_z w64 (of_z w64 e) ≡ e = few-read e (omega (arith, within)) in
    let d-read : to_z w64 (of_z w64 d) ≡ d = few-read d (omega (arith, near)) in
    let quotient-read : to_z w64 (of_z w64 (quotient e)) ≡ quotient e = few-read (quotient e) (omega (arith, quotient-few e within)) in
    let multiple-read : to_z w64 (of_z w64 (pos 10000 *ℤ quotient e)) ≡ pos 10000 *ℤ quotient e = few-read (pos 10000 *ℤ quotient e) (omega (arith, multiple-few e d within near)) in
    let remainder-read : to_z w64 (of_z w64 (remainder e)) ≡ remainder e = few-read (remainder e) (omega (arith, remainder-few e within)) in
    let rest_read : to_z w64 (of_z w64 (remainder e *ℤ d)) ≡ remainder e *ℤ d = few-read (remainder e *ℤ d) (omega (arith, remainder-times e d within near)) in
    let divided : c.floor_div-q.result ≡ quotient c.args.e = c.floor_div-q.ensures ∙ ap quotient e-read in
    let x = remainder e *ℤ d in
    simp (
      divided,
      quotient-read,
      e-read,
      d-read,
      multiple-read,
      remainder-read,
      rest_read,
      few-read t.rest (omega (arith, room.rest)),
    )
    (fits-abs (t.rest +ℤ x) (omega (arith, rest_more t room x (omega (arith, remainder-times e d within near)))))

pub returns : goal.returns
returns c =
    let t : Total = c.args.self in
    let e : ℤ = c.args.e in
    let d : ℤ = c.args.d in
    let room : Room t = c.requires.room in
    let within : InLimit e = c.requires.e_bound in
    let near : Near d = c.requires.d_bound in
    let e-read : to_z w64 (of_z w64 e) ≡ e = few-read e (omega (arith, within)) in
    let d-read : to_z w64 (of_z w64 d) ≡ d = few-read d (omega (arith, near)) in
    let quotient-read : to_z w64 (of_z w64 (quotient e)) ≡ quotient e = few-read (quotient e) (omega (arith, quotient-few e within)) in
    let times-read : to_z w64 (of_z w64 (quotient e *ℤ d)) ≡ quotient e *ℤ d = few-read (quotient e *ℤ d) (omega (arith, quotient-times e d within near)) in
    let multiple-read : to_z w64 (of_z w64 (pos 10000 *ℤ quotient e)) ≡ pos 10000 *ℤ quotient e = few-read (pos 10000 *ℤ quotient e) (omega (arith, multiple-few e d within near)) in
    let remainder-read : to_z w64 (of_z w64 (remainder e)) ≡ remainder e = few-read (remainder e) (omega (arith, remainder-few e within)) in
    let rest_read : to_z w64 (of_z w64 (remainder e *ℤ d)) ≡ remainder e *ℤ d = few-read (remainder e *ℤ d) (omega (arith, remainder-times e d within near)) in
    let divided : c.floor_div-q.result ≡ quotient c.args.e = c.floor_div-q.ensures ∙ ap quotient e-read in
    let x = quotient e *ℤ d in
    let y = remainder e *ℤ d in
    let whole = whole-more t room x (omega (arith, quotient-times e d within near)) in
    let rest = rest_more t room y (omega (arith, remainder-times e d within near)) in
    simp (
      divided,
      quotient-read,
      e-read,
      d-read,
      times-read,
      multiple-read,
      remainder-read,
      rest_read,
      few-read t.whole (omega (arith, room.whole)),
      few-read t.rest (omega (arith, room.rest)),
      few-read (t.whole +ℤ x) (omega (arith, whole)),
      few-read (t.rest +ℤ y) (omega (arith, rest)),
    )
