-- The text lines after the first: which of them are within the rules, and what stops the reading.
use Prim.Native.Nat.{ℕ, suc, zero, ◌+◌, ◌≤◌}
use mathlib.Core.List.{List, [], ◌∷◌, ◌++◌, append_assoc, append-nil}
use mathlib.Core.Path.{◌≡◌, refl, sym, ap, subst, ◌∙◌}
use native.Mathlib.Omega.{arith}
use lib.ListN.{length, length-append}
use Rattle.std.specs.declared.result.Result.{Result}
use Rattle.std.specs.declared.result.Result.TheVariants.{Ok, Err}
use Rattle.codelist.specs.declared.Entry.{Entry}
use Rattle.codelist.specs.Text.{TextLine}
use Rattle.codelist.specs.InFull.{Loaded}
use Rattle.codelist.specs.declared.Op.{Op}
use Rattle.codelist.specs.declared.Refusal.{Refusal}
use Rattle.codelist.specs.declared.Refusal.TheVariants.{Malformed, TooManyLines}
use Rattle.codelist.specs.declared.Year.{Year}
use Rattle.codelist.specs.Text.{line_text, LineAt}
use Rattle.codelist.specs.Codelist.{WellFormedOps}
use Rattle.codelist.specs.Write.{text_line_of, ops_text}
use Rattle.codelist.specs.Read.{Read, good, bad, operation_line}
use Rattle.codelist.specs.Load.{refused, ended, on_line, on_checked, checked_of, operation_lines}
use Rattle.codelist.proofs.LineTexts.{line-sound, line-complete}
use Rattle.codelist.proofs.Checks.{check_sound, check-complete, writes}
use Rattle.codelist.proofs.Steps.{step-fine}

-- One operation more
longer : (n : ℕ) (ops : List Entry) (x : Entry) → n + length (ops ++ (x ∷ [])) ≡ n + length ops + 1
longer n ops x = let one : length (ops ++ (x ∷ [])) ≡ length ops + 1 = length-append ops (x ∷ []) in omega arith

-- The lines of well formed operations are taken
pub run : (y : Year) (xs : List Entry) (room left n : ℕ) (ops : List Entry) (rest : List ℕ) → room ≡ length xs + left → n + length ops + length xs ≤ 64
    → WellFormedOps (n + length ops) xs → operation_lines y n room ops (ops_text xs ++ rest) ≡ operation_lines y n left (ops ++ xs) rest
run y [] room left n ops rest e h g = let r : room ≡ left = omega arith in rw (r, append-nil ops)
run y (x ∷ xs) zero left n ops rest e h g = absurd (omega arith)
run y (x ∷ xs) (suc room) left n ops rest e h g =
    let l = text_line_of x.op in
    let t = ops_text xs ++ rest in
    let small : n + length ops ≤ 64 = omega arith in
    let read : operation_line (line_text l ++ t) ≡ good l t = line-complete l t (writes 0 (n + length ops) small x.op g.0) in
    let more = longer n ops x in
    rw (append_assoc (line_text l) (ops_text xs) rest)
    (step-fine y n ops (line_text l ++ t) l t read room x.op (check-complete (length ops + 2) (n + length ops) small x.op g.0)
    ∙ run y xs room left n (ops ++ (x ∷ [])) rest (omega arith) (omega arith) (subst (λ (m : ℕ). WellFormedOps m xs) (sym more) g.1)
    ∙ ap (λ (ys : List Entry). operation_lines y n left ys rest) (append_assoc ops (x ∷ []) xs))

-- What stops the reading at s, after the operations ops and with room for `left` codelist lines more
pub data Stop (y : Year) (n left : ℕ) (ops : List Entry) (s : List ℕ) (result : Loaded) : Type 0 where
  at-end : s ≡ [] → result ≡ ended y n ops → Stop y n left ops s result
  at-bad : (s ≡ [] → ⊥) → operation_line s ≡ bad → result ≡ refused (Malformed (length ops + 2)) → Stop y n left ops s result
  at-full : left ≡ 0 → (l : TextLine) (t : List ℕ) → operation_line s ≡ good l t → result ≡ refused (TooManyLines (length ops + 2))
      → Stop y n left ops s result
  at-fault : 1 ≤ left → (l : TextLine) (t : List ℕ) (r : Refusal) → operation_line s ≡ good l t
      → checked_of (length ops + 2) (n + length ops) l ≡ Err r → result ≡ refused r → Stop y n left ops s result

-- The lines that are within the rules, from s on, and what stops the reading after them
pub record Trace (y : Year) (n room : ℕ) (ops : List Entry) (s : List ℕ) (result : Loaded) : Type 0 where
  pub xs : List Entry
  pub left : ℕ
  pub rest : List ℕ
  pub text : s ≡ ops_text xs ++ rest
  pub each : WellFormedOps (n + length ops) xs
  pub few : length xs + left ≡ room
  pub stop : Stop y n left (ops ++ xs) rest result

here : (y : Year) (n room : ℕ) (ops : List Entry) (s : List ℕ) (result : Loaded) → Stop y n room ops s result → Trace y n room ops s result
here y n room ops s result p = record {
  xs = [];
  left = room;
  rest = s;
  text = refl;
  each = tt;
  few = omega arith;
  stop = subst (λ (ys : List Entry). Stop y n room ys s result) (sym (append-nil ops)) p;
}

-- One line, and then the others
further : (y : Year) (n room : ℕ) (ops : List Entry) (s : List ℕ) (l : TextLine) (t : List ℕ) (o : Op) (result : Loaded) → LineAt s l t
    → checked_of (length ops + 2) (n + length ops) l ≡ Ok o → Trace y n room (ops ++ (record { op = o } ∷ [])) t result
    → Trace y n (suc room) ops s result
further y n room ops s l t o result a f i =
    let x : Entry = record { op = o } in
    let c = check_sound (length ops + 2) (n + length ops) l o a.fine f in
    record {
      xs = x ∷ i.xs;
      left = i.left;
      rest = i.rest;
      text = a.text ∙ ap (λ (k : TextLine). line_text k ++ t) c.1 ∙ ap (λ (u : List ℕ). line_text (text_line_of o) ++ u) i.text
          ∙ sym (append_assoc (line_text (text_line_of o)) (ops_text i.xs) i.rest);
      each = (c.0, subst (λ (m : ℕ). WellFormedOps m i.xs) (longer n ops x) i.each);
      few = omega (arith, i.few);
      stop = subst (λ (ys : List Entry). Stop y n i.left ys i.rest result) (append_assoc ops (x ∷ []) i.xs) i.stop;
    }

not-nil : (b : ℕ) (s : List ℕ) → b ∷ s ≡ [] → ⊥
not-nil b s e = let z : ◌≡◌ {A = ℕ} 0 1 = cc in omega arith

pub trace : (y : Year) (room n : ℕ) (ops : List Entry) (s : List ℕ) → Trace y n room ops s (operation_lines y n room ops s)
unfolding operation_lines
trace y zero n ops [] = here y n zero ops [] _ (at-end refl refl)
trace y zero n ops (b ∷ s) = go (operation_line (b ∷ s)) refl
  where
    p : ℕ
    p = length ops + 2

    go : (x : Read TextLine) → operation_line (b ∷ s) ≡ x → Trace y n zero ops (b ∷ s) (on_line p x (λ l t. refused (TooManyLines p)))
    go bad e = here y n zero ops (b ∷ s) _ (at-bad (not-nil b s) e refl)
    go (good l t) e = here y n zero ops (b ∷ s) _ (at-full refl l t e refl)
trace y (suc room) n ops [] = here y n (suc room) ops [] _ (at-end refl refl)
trace y (suc room) n ops (b ∷ s) = go (operation_line (b ∷ s)) refl (λ o t. trace y room n (ops ++ (record { op = o } ∷ [])) t)
  where
    p : ℕ
    p = length ops + 2

    more : Op → List ℕ → Loaded
    more o t = operation_lines y n room (ops ++ (record { op = o } ∷ [])) t

    Later : Type 0
    Later = (o : Op) (t : List ℕ) → Trace y n room (ops ++ (record { op = o } ∷ [])) t (more o t)

    checked : (l : TextLine) (t : List ℕ) → operation_line (b ∷ s) ≡ good l t → (x : Result Op Refusal) → checked_of p (n + length ops) l ≡ x → Later
        → Trace y n (suc room) ops (b ∷ s) (on_checked x (λ o. more o t))
    checked l t e (Err r) q ih = here y n (suc room) ops (b ∷ s) _ (at-fault (omega arith) l t r e q refl)
    checked l t e (Ok o) q ih = further y n room ops (b ∷ s) l t o _ (line-sound (b ∷ s) l t e) q (ih o t)

    go : (x : Read TextLine) → operation_line (b ∷ s) ≡ x → Later
        → Trace y n (suc room) ops (b ∷ s) (on_line p x (λ l t. on_checked (checked_of p (n + length ops) l) (λ o. more o t)))
    go bad e ih = here y n (suc room) ops (b ∷ s) _ (at-bad (not-nil b s) e refl)
    go (good l t) e ih = checked l t e (checked_of p (n + length ops) l) refl ih
