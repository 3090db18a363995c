-- The loop over the operation lines: its invariant, and what each way through a turn is of `operation_lines`.
use Prim.Native.Nat.{ℕ, suc, ◌+◌, ◌-◌, ◌≤◌, ◌<◌}
use mathlib.Core.List.{List, [], ◌∷◌, ◌++◌}
use mathlib.Core.Path.{◌≡◌, refl, sym, ap, ◌∙◌}
use native.Mathlib.Nat.{add-zero}
use native.Mathlib.Numerals.{add-one}
use native.Mathlib.Omega.{arith}
use lib.ListN.{length, take, drop, set, replicate, length-set, take-append-drop}
use lib.Seq.{length-take-le, take-suc-set, drop-set-lt, drop-drop}
use Rattle.std.specs.declared.result.Result.{Result}
use Rattle.std.specs.declared.result.Result.TheVariants.{Ok, Err}
use Rattle.codelist.specs.declared.Entry.{Entry}
use Rattle.codelist.specs.Text.{TextLine}
use Rattle.codelist.specs.declared.Op.{Op}
use Rattle.codelist.specs.declared.Refusal.{Refusal}
use Rattle.codelist.specs.declared.Refusal.TheVariants.{Malformed, TooManyLines, NoOperation}
use Rattle.codelist.specs.declared.Year.{Year}
use Rattle.codelist.specs.Codelist.{blank}
use Rattle.codelist.specs.Read.{good, bad, operation_line}
use Rattle.codelist.specs.Load.{refused, accepted, codelist_of, ended, operation_lines, checked_of}
use Rattle.codelist.proofs.Steps.{step_end, step-bad, step-full, step-fault, step-fine}

length-zero : {A : Type 0} (t : List A) → length t ≡ 0 → t ≡ []
length-zero [] h = refl
length-zero (x ∷ t) h = absurd (omega arith)

-- After `count` operations, with t left of the text: what is left to load is what was to be loaded at the start
pub record Going (s : List ℕ) (y : Year) (n : ℕ) (ops : List Entry) (count : ℕ) (t : List ℕ) : Type 0 where
  pub few : n + count ≤ 64
  pub whole : length ops ≡ 64
  pub blanks : drop count ops ≡ replicate (64 - count) blank
  pub same : operation_lines y n (64 - (n + count)) (take count ops) t ≡ operation_lines y n (64 - n) [] s

pub start : (s : List ℕ) (y : Year) (n : ℕ) → n ≤ 8 → Going s y n (replicate 64 blank) 0 s
start s y n h = record {
  few = omega arith;
  whole = refl;
  blanks = refl;
  same = rw add-zero;
}

-- The ways out of the loop, and the next turn
module _ (s : List ℕ) (y : Year) (n : ℕ) (ops : List Entry) (count : ℕ) (t : List ℕ) (g : Going s y n ops count t) where
  taken-len : length (take count ops) ≡ count
  taken-len = length-take-le count ops (omega arith)

  -- the checks, with the number of operations for the length of their list
  checks : (l : TextLine) (x : Result Op Refusal) → x ≡ checked_of (count + 2) (n + count) l
      → checked_of (length (take count ops) + 2) (n + length (take count ops)) l ≡ x
  checks l x q = rw taken-len (sym q)

  room-left : n + count < 64 → 64 - (n + count) ≡ suc (64 - (n + (count + 1)))
  room-left h = omega arith

  pub leave-bad : 0 < length t → bad ≡ operation_line t → refused (Malformed (count + 2)) ≡ operation_lines y n (64 - n) [] s
  leave-bad h e =
      ap (λ (m : ℕ). refused (Malformed (m + 2))) (sym taken-len)
      ∙ sym (step-bad y n (take count ops) t (64 - (n + count)) (λ q. omega (arith, ap length q)) (sym e)) ∙ g.same

  module _ (l : TextLine) (u : List ℕ) (e : good l u ≡ operation_line t) where
    pub leave-full : 64 ≤ n + count → refused (TooManyLines (count + 2)) ≡ operation_lines y n (64 - n) [] s
    leave-full f =
        let z : 64 - (n + count) ≡ 0 = omega arith in
        ap (λ (m : ℕ). refused (TooManyLines (m + 2))) (sym taken-len)
        ∙ sym (rw z (step-full y n (take count ops) t l u (sym e))) ∙ g.same

    pub leave-fault : (r : Refusal) → n + count < 64 → Err r ≡ checked_of (count + 2) (n + count) l
        → refused r ≡ operation_lines y n (64 - n) [] s
    leave-fault r f q = sym (rw (room-left f) (step-fault y n (take count ops) t l u (sym e) _ r (checks l (Err r) q))) ∙ g.same

    fine : (o : Op) → n + count < 64 → Ok o ≡ checked_of (count + 2) (n + count) l
        → operation_lines y n (64 - (n + (count + 1))) (take count ops ++ (record { op = o } ∷ [])) u ≡ operation_lines y n (64 - n) [] s
    fine o f q = sym (rw (room-left f) (step-fine y n (take count ops) t l u (sym e) _ o (checks l (Ok o) q))) ∙ g.same

    pub turn : (o : Op) → n + count < 64 → Ok o ≡ checked_of (count + 2) (n + count) l → Going s y n (set ops count (record { op = o })) (count + 1) u
    turn o f q = record {
      few = omega arith;
      whole = length-set ops count x ∙ g.whole;
      blanks = blanks-more;
      same = ap (λ (xs : List Entry). operation_lines y n (64 - (n + (count + 1))) xs u) taken ∙ fine o f q;
    }
      where
        x : Entry
        x = record { op = o }

        taken : take (count + 1) (set ops count x) ≡ take count ops ++ (x ∷ [])
        taken = rw add-one (take-suc-set ops count x (omega arith))

        left : 64 - count ≡ suc (64 - (count + 1))
        left = omega arith

        blanks-more : drop (count + 1) (set ops count x) ≡ replicate (64 - (count + 1)) blank
        blanks-more =
            drop-set-lt (count + 1) ops count x (omega arith) ∙ sym (drop-drop 1 count ops)
            ∙ ap (drop 1) (g.blanks ∙ ap (λ (m : ℕ). replicate m blank) left)

  after : length t ≡ 0 → operation_lines y n (64 - (n + count)) (take count ops) t ≡ ended y n (take count ops)
  after h = rw (length-zero t h) (step_end y n (take count ops) (64 - (n + count)))

  pub leave_none : length t ≡ 0 → count ≡ 0 → refused NoOperation ≡ operation_lines y n (64 - n) [] s
  leave_none h z = ap (λ (m : ℕ). ended y n (take m ops)) (sym z) ∙ sym (after h) ∙ g.same

  pub leave-done : length t ≡ 0 → (count ≡ 0 → ⊥)
      → accepted (record { year = y; factors = n; count = count; ops = ops }) ≡ operation_lines y n (64 - n) [] s
  unfolding codelist_of
  leave-done h z =
      ap (λ (xs : List Entry). accepted (record { year = y; factors = n; count = count; ops = xs }))
      (sym (take-append-drop count ops) ∙ ap (λ (xs : List Entry). take count ops ++ xs) g.blanks)
      ∙ ap (λ (m : ℕ). accepted (record { year = y; factors = n; count = m; ops = take count ops ++ replicate (64 - m) blank })) (sym taken-len)
      ∙ sym (some-ended (take count ops) taken-len) ∙ sym (after h) ∙ g.same
    where
      some-ended : (xs : List Entry) → length xs ≡ count → ended y n xs ≡ accepted (codelist_of y n xs)
      some-ended [] e = absurd (z (sym e))
      some-ended (x ∷ xs) e = refl
