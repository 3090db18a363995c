-- What the output tells (specs/Faithful.antt).
use Prim.Native.Nat.{ℕ}
use mathlib.Core.List.{List, [], ◌++◌, append_cancel_left}
use mathlib.Core.Path.{◌≡◌, sym, ap, ◌∙◌}
use native.Mathlib.Omega.{arith}
use Rattle.rules.specs.declared.Limits.{Limits}
use Rattle.engine.specs.InFull.{Outcome}
use Rattle.engine.specs.InFull.{Accepted}
use Rattle.engine.specs.InFull.{Rating}
use Rattle.engine.specs.declared.Refusal.{Refusal}
use Rattle.engine.specs.Engine.{rated_of}
use Rattle.engine.proofs.Validity.{Valid, accepted-valid}
use Rattle.writer.specs.Texts.{refused_text}
use Rattle.text.specs.Output.{value, depends, bent, bend, full, limits_text, refusal_text}
use Rattle.text.specs.Answer.{unless_refused, rating_text}
use Rattle.text.specs.Faithful.{Same, Faithful}
use Rattle.text.proofs.Lengths.{answer-whole}
use Rattle.text.proofs.Parsing.{range-inv, slopes-inv, set-inv}

-- piece by piece
pub limits-inv : (n : ℕ) (k l : Limits) → Valid k → Valid l → limits_text n k ≡ limits_text n l → Same n k l
unfolding limits_text
limits-inv n k l v w e =
    let a = range-inv k.value l.value _ _ v.value w.value (append_cancel_left value _ _ e) in
    let b = slopes-inv n k.gradient l.gradient _ _ v.slopes w.slopes a.1 in
    let c = set-inv k.support l.support _ _ (append_cancel_left depends _ _ b.1) in
    let d = set-inv k.nonlinear l.nonlinear _ _ (append_cancel_left bent _ _ c.1) in
    let f = range-inv k.spectrum l.spectrum _ _ v.spectrum w.spectrum (append_cancel_left bend _ _ d.1) in
    let g = range-inv k.full l.full [] [] v.full w.full (ap (λ (t : List ℕ). t ++ []) (append_cancel_left full _ _ f.1)) in
    record { value = a.0; gradient = b.0; support = c.0; nonlinear = d.0; spectrum = f.0; full = g.0 }

accepted-text : (n : ℕ) (r : Rating) → r.outcome ≡ Accepted → rating_text n r ≡ limits_text n r.limits
accepted-text n r a = ap (λ (o : Outcome). unless_refused o (limits_text n r.limits)) a

apart : (n : ℕ) (l : Limits) (r : Refusal) → limits_text n l ≡ refusal_text r → ⊥
unfolding limits_text refusal_text refused_text
apart n l r e = let z : ◌≡◌ {A = ℕ} 118 114 = cc e in omega arith

pub faithful : Faithful
faithful = record {
  whole = answer-whole;
  determined = λ e f xs ys a b n p.
      limits-inv e.codelist.factors (rated_of e xs).limits (rated_of f ys).limits (accepted-valid e xs a) (accepted-valid f ys b)
      (sym (accepted-text _ (rated_of e xs) a) ∙ p ∙ accepted-text _ (rated_of f ys) b
      ∙ ap (λ (m : ℕ). limits_text m (rated_of f ys).limits) (sym n));
  apart = apart;
}
