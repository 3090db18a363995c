-- The parts of the answer: what the calls of the code gave, put together. Assumes nothing.
use Prim.Native.Nat.{ℕ, suc, ◌+◌, ◌≤◌, ◌<◌}
use mathlib.Core.Bool.{Bool, true, false, cond, ◌&&◌}
use mathlib.Core.List.{List, [], ◌∷◌, ◌++◌}
use mathlib.Core.Option.{none, some}
use mathlib.Core.Path.{◌≡◌, refl, sym, ◌∙◌}
use native.Mathlib.Decide.{dec_lt}
use native.Mathlib.Omega.{arith}
use lib.Dec.{eqb, lit<}
use lib.IntN.{ℤ}
use lib.ListN.{length, take, drop, drop_of_length-le}
use borrow.Author.Tests.{le-leb, lt-leb, lt-ltb, le-ltb, ne_eqb}
use Rattle.std.proofs.lemmas.List.{drop-drop}
use Rattle.std.specs.Cmp.Lexicographic.{pointwise}
use Rattle.codelist.specs.Read.{peek, rest}
use Rattle.engine.specs.declared.Engine.{Engine}
use Rattle.engine.specs.InFull.{Loading}
use Rattle.engine.specs.InFull.{Accepted, Refused}
use Rattle.engine.specs.declared.Refusal.{Refusal}
use Rattle.engine.specs.Engine.{empty_engine, loaded_of}
use Rattle.text.specs.Input.{is_line, sheet_length, sheet_of, after_line}
use Rattle.text.specs.Output as text
use Rattle.text.proofs.Splitting.{sheet_length-≤}
use Rattle.fleet_text.proofs.Cut.{and_kept}
use Rattle.boats.specs.InFull.{Counted}
use Rattle.boats.specs.declared.Refusal.TheVariants.{Boats}
use Rattle.boats.specs.Fleet.{fleet_of}
use Rattle.fleet_text.specs.Input.{boats, boat_lines, boats_in}
use Rattle.fleet_text.specs.Views.{boats_from}
use Rattle.fleet_text.specs.Output.{refusal_text, counted_text}
use Rattle.fleet_text.specs.Answer.{loading_text, answer_of}

-- ---- the boats of the text s, whose sheet ends at `end`
pub too_long : (s : List ℕ) → 102400 < length s → none ≡ boats_in s
unfolding boats_in
too_long s h = rw (lt-leb (length s) 102400 h)

-- where a line w is found, the text goes on with it and its end
found : (w : List ℕ) (start : Bool) (s : List ℕ) → sheet_length w start s < length s → is_line w (drop (sheet_length w start s) s) ≡ true
unfolding sheet_length
found w start [] h = absurd (omega (arith, h))
found w start (b ∷ s) h = go start (is_line w (b ∷ s)) refl (found w (eqb b 10) s) h
  where
    go : (t u : Bool) → is_line w (b ∷ s) ≡ u → (sheet_length w (eqb b 10) s < length s → is_line w (drop (sheet_length w (eqb b 10) s) s) ≡ true)
        → cond (t && u) 0 (suc (sheet_length w (eqb b 10) s)) < suc (length s)
        → is_line w (drop (cond (t && u) 0 (suc (sheet_length w (eqb b 10) s))) (b ∷ s)) ≡ true
    go true true e f h = e
    go true false e f h = f (omega (arith, h))
    go false u e f h = f (omega (arith, h))

abbrev Bytes : List ℕ → Type 0
Bytes [] = Unit {0}
Bytes (b ∷ w) = (b < 256) × Bytes w

begun : (w s : List ℕ) → Bytes w → is_line w s ≡ true → pointwise eqb (take (suc (length w)) s) (w ++ (10 ∷ [])) ≡ true
unfolding is_line peek rest
begun [] [] h e = absurd (let z : true ≡ false = sym e in cc)
begun [] (x ∷ s) h e = rw e
begun (b ∷ w) [] h e = absurd (let z : true ≡ false = sym e ∙ rw (ne_eqb 256 b (λ p. omega (arith, h.0, p))) in cc)
begun (b ∷ w) (x ∷ s) h e = and_kept (eqb x b) (begun w s h.1) e

module _ (s : List ℕ) (end : ℕ) (p : end ≡ sheet_length boats true s) (h : length s ≤ 102400) where
  -- no line `boats` stands there
  pub no-line : length s ≤ end → none ≡ boats_in s
  unfolding boats_in
  no-line g = rw (le-leb (length s) 102400 h, ← p, le-ltb end (length s) g)

  -- one does, and the boat lines begin behind it
  pub parted : end < length s → boat_lines 1000 [] (drop (end + 6) s) ≡ boats_in s
  unfolding boats_in after_line
  parted g =
      let n : end + 6 ≡ end + 5 + 1 = omega arith in
      rw (le-leb (length s) 102400 h, ← p, lt-ltb end (length s) g, n)

module _ (s : List ℕ) (end : ℕ) (p : end ≡ sheet_length boats true s) where
  pub within : end ≤ length s
  within = rw p (sheet_length-≤ boats true s)

  pub as-read : length s ≤ 102400 → boats_from (drop end s) ≡ boats_in s
  as-read h = elim (dec_lt end (length s)) [
    | yes l ↦
        let b : Bytes boats = (lit< tt, (lit< tt, (lit< tt, (lit< tt, (lit< tt, tt))))) in
        let f = begun boats (drop end s) b (rw p (found boats true s (rw (← p) l))) in
        rw (f, drop-drop 6 end s) (parted s end p h l)
    | no l ↦ rw (drop_of_length-le s {i = end} (omega arith)) (no-line s end p h (omega arith))
  ]

  -- ---- the whole: an empty engine, and the loading of what stands before that end
  module _ (o : Engine) (n : o ≡ empty_engine) (l : Loading) (e : l ≡ loaded_of o (take end s)) where
    answered : answer_of s ≡ loading_text l (boats_in s)
    unfolding answer_of sheet_of
    answered = simp (← p, ← n, ← e)

    pub no-boats : l.outcome ≡ Accepted → none ≡ boats_in s → refusal_text Boats ≡ answer_of s
    no-boats a b = rw (answered, a, ← b)

    -- the page x of the boats bs
    pub paged : (bs : List (List ℤ)) (x : Counted) → l.outcome ≡ Accepted → some bs ≡ boats_in s → x ≡ fleet_of l.engine bs
        → counted_text (length bs) x ≡ answer_of s
    paged bs x a b f = rw (answered, a, ← b, f)

    pub not-loaded : (r : Refusal) → l.outcome ≡ Refused r → text.refusal_text r ≡ answer_of s
    not-loaded r a = rw (answered, a)
