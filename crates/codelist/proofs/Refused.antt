-- A text is refused exactly as 01's table says.
use Prim.Native.Nat.{ℕ, suc, zero, ◌+◌, ◌-◌}
use mathlib.Core.List.{List, []}
use mathlib.Core.Logic.{◌⊎◌, inl, inr}
use mathlib.Core.Path.{◌≡◌, refl, sym, ap, subst, ◌∙◌}
use native.Mathlib.Omega.{arith}
use lib.ListN.{length}
use borrow.Author.Tests.{lt-leb}
use Rattle.codelist.specs.declared.Codelist.{Codelist}
use Rattle.codelist.specs.declared.Entry.{Entry}
use Rattle.codelist.specs.Text.{TextLine}
use Rattle.codelist.specs.InFull.{Loaded}
use Rattle.codelist.specs.declared.Numeral.{Numeral}
use Rattle.codelist.specs.InFull.{Refused}
use Rattle.codelist.specs.declared.Refusal.{Refusal}
use Rattle.codelist.specs.declared.Refusal.TheVariants.{Malformed}
use Rattle.codelist.specs.Text.{YearField, LineAt}
use Rattle.codelist.specs.Read.{Read, good, bad, operation_line, first_line}
use Rattle.codelist.specs.Load.{refused, accepted, on_first, operation_lines, load_of}
use Rattle.codelist.specs.Refused.{Next, RefusedFor, too_long, no-first-line, malformed, factor-count, unknown-year, too-many-lines}
use Rattle.codelist.specs.Refused.{no-operation, reference, exponent, constant, multiplier, RefusedExactly}
use Rattle.codelist.proofs.LineTexts.{line-sound, line-complete, first-sound}
use Rattle.codelist.proofs.Checks.{Broken, broken-reference, broken-exponent, broken-constant, broken-multiplier, fault-complete}
use Rattle.codelist.proofs.Steps.{step_end, step-bad, step-full, step-fault}
use Rattle.codelist.proofs.Classified.{Class, kept, turned_down, classify}
use Rattle.codelist.proofs.Resumed.{not-long, first_read, resumed}
use Rattle.codelist.proofs.Accepted.{not-both}

refusal_is : (q r : Refusal) → refused q ≡ refused r → q ≡ r
refusal_is q r e = let f : Refused q ≡ Refused r = ap (λ (x : Loaded). x.outcome) e in cc f

refused-sound : (s : List ℕ) (r : Refusal) → load_of s ≡ refused r → RefusedFor s r
refused-sound s r e = go (load_of s) e (classify s)
  where
    go : (x : Loaded) → x ≡ refused r → Class s x → RefusedFor s r
    go x p (kept c q w t) = not-both c r (sym q ∙ p)
    go x p (turned_down k q u) = subst (RefusedFor s) (refusal_is k r (sym q ∙ p)) u

-- a line that is read
line_read : (s : List ℕ) (l : TextLine) (t : List ℕ) → LineAt s l t → operation_line s ≡ good l t
line_read s l t a = ap operation_line a.text ∙ line-complete l t a.fine

-- a line of its form that breaks a condition
breaks : (s : List ℕ) (n : ℕ) (done : List Entry) (l : TextLine) (t : List ℕ) (r : Refusal) → Next s n done l t
    → Broken (length done + 2) (n + length done) l r → load_of s ≡ refused r
breaks s n done l t r a b =
    resumed s n done a.rest (suc (63 - (n + length done))) a.upto (omega (arith, a.room))
    ∙ step-fault a.upto.year n done a.rest l t (line_read a.rest l t a.line) (63 - (n + length done)) r (fault-complete _ _ l r b)

refused-complete : (s : List ℕ) (r : Refusal) → RefusedFor s r → load_of s ≡ refused r
unfolding load_of
refused-complete s r (too_long h) = rw (lt-leb (length s) 4096 h)
refused-complete s r (no-first-line h none) = not-long s h ∙ go (first_line s) refl
  where
    go : (x : Read (Numeral × YearField)) → first_line s ≡ x → on_first x ≡ refused (Malformed 1)
    go bad e = refl
    go (good p t) e = absurd (none p.0 p.1 t (first-sound s p t e))
refused-complete s r (malformed {n} {done} {rest} u h none) =
    resumed s n done rest (64 - (n + length done)) u (omega (arith, u.few)) ∙ go (operation_line rest) refl
  where
    go : (x : Read TextLine) → operation_line rest ≡ x → operation_lines u.year n (64 - (n + length done)) done rest ≡ refused
        (Malformed (length done + 2))
    go bad e = step-bad u.year n done rest (64 - (n + length done)) h e
    go (good l t) e = absurd (none l t (line-sound rest l t e))
refused-complete s r (factor-count {w} {f} {t} h a q) = first_read s w f t h a ∙ rw q
refused-complete s r (unknown-year {w} {f} {t} h a p q) = first_read s w f t h a ∙ rw (p, q)
refused-complete s r (too-many-lines {n} {done} {rest} {l} {t} u a e) =
    resumed s n done rest zero u (omega arith) ∙ step-full u.year n done rest l t (line_read rest l t a)
refused-complete s r (no-operation {n} u) = resumed s n [] [] (64 - (n + 0)) u (omega (arith, u.few)) ∙ step_end u.year n [] (64 - (n + 0))
refused-complete s r (reference {n} {done} {l} {t} a b) = breaks s n done l t _ a (broken-reference b)
refused-complete s r (exponent {n} {done} {l} {t} a b c) = breaks s n done l t _ a (broken-exponent b c)
refused-complete s r (constant {n} {done} {l} {t} a b c d) = breaks s n done l t _ a (broken-constant b c d)
refused-complete s r (multiplier {n} {done} {l} {t} a b c d m) = breaks s n done l t _ a (broken-multiplier b c d m)

-- REFUSED EXACTLY AS THE TABLE SAYS
pub refused-exactly : RefusedExactly
refused-exactly = record {
  where-listed = λ s r. (refused-sound s r, refused-complete s r);
  one-refusal = λ s q r a b. refusal_is q r (sym (refused-complete s q a) ∙ refused-complete s r b);
  decided = λ s. go (load_of s) (classify s);
}
  where
    go : {s : List ℕ} (x : Loaded) → Class s x → ((c : Codelist) × (x ≡ accepted c)) ⊎ ((r : Refusal) × (x ≡ refused r))
    go x (kept c e w t) = inl (c, e)
    go x (turned_down r e u) = inr (r, e)
