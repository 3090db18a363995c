-- What every reader does, and how readers are put together. A reader stands behind the text q of what was read before. Where it finds y, it took the
-- bytes that `text y` has after q, and of what follows it saw at most one byte. Where it halts, what it took so far can go on: some y has a text that
-- begins so; and again it saw at most one byte more.
use Prim.Native.Nat.{ℕ, ◌<◌}
use mathlib.Core.Bool.{Bool, true, false, cond}
use mathlib.Core.List.{List, [], ◌∷◌, ◌++◌, append_assoc, append-nil}
use mathlib.Core.Path.{◌≡◌, refl, sym, ap, subst, ◌∙◌, fun_ext}
use native.Mathlib.Omega.{arith}
use Rattle.codelist.specs.Read.{peek, rest}
use Rattle.formulas.specs.Read.{Found, good, stuck, and_then}

pub record FoundAt {A : Type 0} (q : List ℕ) (Is : A → Type 0) (text : A → List ℕ) (F : List ℕ → Found A) (s : List ℕ) (y : A)
    (u : List ℕ) : Type 0 where
  pub is : Is y
  pub took : List ℕ
  pub whole : text y ≡ q ++ took
  pub split : s ≡ took ++ u
  pub local : (w : List ℕ) → peek w ≡ peek u → F (took ++ w) ≡ good y w

pub record HaltsAt {A : Type 0} (q : List ℕ) (Is : A → Type 0) (text : A → List ℕ) (F : List ℕ → Found A) (s u : List ℕ) : Type 0 where
  pub took : List ℕ
  pub split : s ≡ took ++ u
  pub local : (w : List ℕ) → peek w ≡ peek u → F (took ++ w) ≡ stuck w
  pub some : A
  pub more : List ℕ
  pub is : Is some
  pub whole : text some ≡ q ++ (took ++ more)

-- of the texts whose first byte (256 at the end) is one of G
pub record Reads {A : Type 0} (G : ℕ → Type 0) (q : List ℕ) (Is : A → Type 0) (text : A → List ℕ) (F : List ℕ → Found A) : Type 0 where
  pub found : (s : List ℕ) (y : A) (u : List ℕ) → G (peek s) → F s ≡ good y u → FoundAt q Is text F s y u
  pub halts : (s u : List ℕ) → G (peek s) → F s ≡ stuck u → HaltsAt q Is text F s u

abbrev pub Any : ℕ → Type 0
Any b = Unit

-- ════ laws of lists and results ════

pub peek-behind : (p w u : List ℕ) → peek w ≡ peek u → peek (p ++ w) ≡ peek (p ++ u)
unfolding peek
peek-behind [] w u e = e
peek-behind (b ∷ p) w u e = refl

pub good-value : {A : Type 0} (x y : A) (s t : List ℕ) → good x s ≡ good y t → x ≡ y
good-value x y s t e = cc

pub good-rest : {A : Type 0} (x y : A) (s t : List ℕ) → good x s ≡ good y t → s ≡ t
good-rest x y s t e = cc

pub stuck-rest : {A : Type 0} (s t : List ℕ) → ◌≡◌ {A = Found A} (stuck s) (stuck t) → s ≡ t
stuck-rest s t e = cc

pub good-stuck : {A X : Type 0} (x : A) (s t : List ℕ) → good x s ≡ stuck t → X
good-stuck x s t e = absurd (let z : ◌≡◌ {A = ℕ} 0 1 = cc in omega arith)

-- ════ readers that take nothing ════

module _ {A : Type 0} (G : ℕ → Type 0) (q : List ℕ) (Is : A → Type 0) (text : A → List ℕ) where
  -- what was read is all
  pub done : (y : A) → Is y → text y ≡ q → Reads G q Is text (λ s. good y s)
  done y i e = record {
    found = λ s x u g h. record {
      is = subst Is (good-value y x s u h) i;
      took = [];
      whole = ap text (sym (good-value y x s u h)) ∙ e ∙ sym (append-nil q);
      split = good-rest y x s u h;
      local = λ w k. ap (λ (z : A). good z w) (good-value y x s u h);
    };
    halts = λ s u g h. good-stuck y s u h;
  }

  -- nothing can follow, though y is such that something could
  pub fail : (y : A) (more : List ℕ) → Is y → text y ≡ q ++ more → Reads G q Is text stuck
  fail y more i e = record {
    found = λ s x u g h. good-stuck x u s (sym h);
    halts = λ s u g h. record {
      took = [];
      split = stuck-rest {A = A} s u h;
      local = λ w k. refl;
      some = y;
      more = more;
      is = i;
      whole = e;
    };
  }

  -- by a test of the next byte
  pub either : (test : ℕ → Bool) (F H : List ℕ → Found A) → Reads (λ b. G b × (test b ≡ true)) q Is text F
      → Reads (λ b. G b × (test b ≡ false)) q Is text H → Reads G q Is text (λ s. cond (test (peek s)) (F s) (H s))
  either test F H yes' no' = record {
    found = λ s y u g e. found' s y u g e (test (peek s)) refl;
    halts = λ s u g e. halts' s u g e (test (peek s)) refl;
  }
    where
      K : List ℕ → Found A
      K s = cond (test (peek s)) (F s) (H s)

      on-true : (s : List ℕ) → test (peek s) ≡ true → K s ≡ F s
      on-true s t = rw t

      on-false : (s : List ℕ) → test (peek s) ≡ false → K s ≡ H s
      on-false s t = rw t

      -- the test is the same in front of another text
      again : (s p w u : List ℕ) (b : Bool) → s ≡ p ++ u → peek w ≡ peek u → test (peek s) ≡ b → test (peek (p ++ w)) ≡ b
      again s p w u b e k t = ap test (peek-behind p w u k ∙ ap peek (sym e)) ∙ t

      found' : (s : List ℕ) (y : A) (u : List ℕ) → G (peek s) → K s ≡ good y u → (b : Bool) → test (peek s) ≡ b → FoundAt q Is text K s y u
      found' s y u g e true t =
          let f = yes'.found s y u (g, t) (sym (on-true s t) ∙ e) in
          record {
            is = f.is;
            took = f.took;
            whole = f.whole;
            split = f.split;
            local = λ w k. on-true (f.took ++ w) (again s f.took w u true f.split k t) ∙ f.local w k;
          }
      found' s y u g e false t =
          let f = no'.found s y u (g, t) (sym (on-false s t) ∙ e) in
          record {
            is = f.is;
            took = f.took;
            whole = f.whole;
            split = f.split;
            local = λ w k. on-false (f.took ++ w) (again s f.took w u false f.split k t) ∙ f.local w k;
          }

      halts' : (s u : List ℕ) → G (peek s) → K s ≡ stuck u → (b : Bool) → test (peek s) ≡ b → HaltsAt q Is text K s u
      halts' s u g e true t =
          let f = yes'.halts s u (g, t) (sym (on-true s t) ∙ e) in
          record {
            took = f.took;
            split = f.split;
            local = λ w k. on-true (f.took ++ w) (again s f.took w u true f.split k t) ∙ f.local w k;
            some = f.some;
            more = f.more;
            is = f.is;
            whole = f.whole;
          }
      halts' s u g e false t =
          let f = no'.halts s u (g, t) (sym (on-false s t) ∙ e) in
          record {
            took = f.took;
            split = f.split;
            local = λ w k. on-false (f.took ++ w) (again s f.took w u false f.split k t) ∙ f.local w k;
            some = f.some;
            more = f.more;
            is = f.is;
            whole = f.whole;
          }

  -- one byte, and then a reader that may go by it
  pub consume : (F : ℕ → List ℕ → Found A) → ((b : ℕ) → G b → b < 256)
      → ((b : ℕ) → G b → Reads Any (q ++ (b ∷ [])) Is text (F b)) → Reads G q Is text (λ s. F (peek s) (rest s))
  unfolding peek rest
  consume F bytes r = record { found = found'; halts = halts' }
    where
      K : List ℕ → Found A
      K s = F (peek s) (rest s)

      longer : (b : ℕ) (p : List ℕ) → (q ++ (b ∷ [])) ++ p ≡ q ++ (b ∷ p)
      longer b p = append_assoc q (b ∷ []) p

      found' : (s : List ℕ) (y : A) (u : List ℕ) → G (peek s) → K s ≡ good y u → FoundAt q Is text K s y u
      found' [] y u g e = absurd (omega (arith, bytes 256 g))
      found' (b ∷ s) y u g e =
          let f = (r b g).found s y u tt e in
          record {
            is = f.is;
            took = b ∷ f.took;
            whole = f.whole ∙ longer b f.took;
            split = ap (λ (l : List ℕ). b ∷ l) f.split;
            local = λ w k. f.local w k;
          }

      halts' : (s u : List ℕ) → G (peek s) → K s ≡ stuck u → HaltsAt q Is text K s u
      halts' [] u g e = absurd (omega (arith, bytes 256 g))
      halts' (b ∷ s) u g e =
          let f = (r b g).halts s u tt e in
          record {
            took = b ∷ f.took;
            split = ap (λ (l : List ℕ). b ∷ l) f.split;
            local = λ w k. f.local w k;
            some = f.some;
            more = f.more;
            is = f.is;
            whole = f.whole ∙ longer b (f.took ++ f.more);
          }

-- One reader after another: whatever the first finds can become something that the second finds
module _ {A B : Type 0} (G : ℕ → Type 0) (q : List ℕ) (IsA : A → Type 0) (text_a : A → List ℕ) (IsB : B → Type 0) (text_b : B → List ℕ) where
  pub sequence : (R : List ℕ → Found A) (F : A → List ℕ → Found B) → Reads G q IsA text_a R
      → ((x : A) → IsA x → Reads Any (text_a x) IsB text_b (F x))
      → ((x : A) → IsA x → (y : B) × (c : List ℕ) × IsB y × (text_b y ≡ text_a x ++ c)) → Reads G q IsB text_b (λ s. and_then (R s) F)
  sequence R F first second goes_on = record {
    found = λ s y u g e. found' s y u g (R s) refl e;
    halts = λ s u g e. halts' s u g (R s) refl e;
  }
    where
      K : List ℕ → Found B
      K s = and_then (R s) F

      found' : (s : List ℕ) (y : B) (u : List ℕ) → G (peek s) → (r : Found A) → R s ≡ r → and_then r F ≡ good y u → FoundAt q IsB text_b K s y u
      found' s y u g (good x v) d e =
          let f = first.found s x v g d in
          let h = (second x f.is).found v y u tt e in
          record {
            is = h.is;
            took = f.took ++ h.took;
            whole = h.whole ∙ ap (λ (l : List ℕ). l ++ h.took) f.whole ∙ append_assoc q f.took h.took;
            split = f.split ∙ ap (λ (l : List ℕ). f.took ++ l) h.split ∙ sym (append_assoc f.took h.took u);
            local = λ w k.
                ap K (append_assoc f.took h.took w)
                ∙ ap (λ (z : Found A). and_then z F)
                (f.local (h.took ++ w) (peek-behind h.took w u k ∙ ap peek (sym h.split)))
                ∙ h.local w k;
          }
      found' s y u g (stuck v) d e = good-stuck y u v (sym e)

      halts' : (s u : List ℕ) → G (peek s) → (r : Found A) → R s ≡ r → and_then r F ≡ stuck u → HaltsAt q IsB text_b K s u
      halts' s u g (good x v) d e =
          let f = first.found s x v g d in
          let h = (second x f.is).halts v u tt e in
          record {
            took = f.took ++ h.took;
            split = f.split ∙ ap (λ (l : List ℕ). f.took ++ l) h.split ∙ sym (append_assoc f.took h.took u);
            local = λ w k.
                ap K (append_assoc f.took h.took w)
                ∙ ap (λ (z : Found A). and_then z F)
                (f.local (h.took ++ w) (peek-behind h.took w u k ∙ ap peek (sym h.split)))
                ∙ h.local w k;
            some = h.some;
            more = h.more;
            is = h.is;
            whole = h.whole ∙ ap (λ (l : List ℕ). l ++ (h.took ++ h.more)) f.whole
                ∙ append_assoc q f.took (h.took ++ h.more)
                ∙ ap (λ (l : List ℕ). q ++ l) (sym (append_assoc f.took h.took h.more));
          }
      halts' s u g (stuck v) d e =
          let f = first.halts s v g d in
          let y = goes_on f.some f.is in
          let z = stuck-rest {A = B} v u e in
          record {
            took = f.took;
            split = f.split ∙ ap (λ (l : List ℕ). f.took ++ l) z;
            local = λ w k. ap (λ (x : Found A). and_then x F) (f.local w (k ∙ ap peek (sym z)));
            some = y.0;
            more = f.more ++ y.1;
            is = y.2;
            whole = y.3 ∙ ap (λ (l : List ℕ). l ++ y.1) f.whole ∙ append_assoc q (f.took ++ f.more) y.1
                ∙ ap (λ (l : List ℕ). q ++ l) (append_assoc f.took f.more y.1);
          }

-- Behind another text
pub after : {A : Type 0} (G : ℕ → Type 0) (p : List ℕ) (Is : A → Type 0) (text : A → List ℕ) (F : List ℕ → Found A)
    → Reads G [] Is text F → Reads G p Is (λ y. p ++ text y) F
after G p Is text F r = record {
  found = λ s y u g e.
      let f = r.found s y u g e in
      record {
        is = f.is;
        took = f.took;
        whole = ap (λ (l : List ℕ). p ++ l) f.whole;
        split = f.split;
        local = f.local;
      };
  halts = λ s u g e.
      let f = r.halts s u g e in
      record {
        took = f.took;
        split = f.split;
        local = f.local;
        some = f.some;
        more = f.more;
        is = f.is;
        whole = ap (λ (l : List ℕ). p ++ l) f.whole;
      };
}

-- The same reader, written in another way
pub same : {A : Type 0} (G : ℕ → Type 0) (q : List ℕ) (Is : A → Type 0) (text : A → List ℕ) (F H : List ℕ → Found A)
    → ((s : List ℕ) → F s ≡ H s) → Reads G q Is text F → Reads G q Is text H
same G q Is text F H e r = subst (Reads G q Is text) (fun_ext e) r

-- For fewer texts, and more to be found
pub weaken : {A : Type 0} (G H : ℕ → Type 0) (q : List ℕ) (Is Is' : A → Type 0) (text : A → List ℕ) (F : List ℕ → Found A)
    → ((b : ℕ) → H b → G b) → ((y : A) → Is y → Is' y) → Reads G q Is text F → Reads H q Is' text F
weaken G H q Is Is' text F k i r = record {
  found = λ s y u g e.
      let f = r.found s y u (k (peek s) g) e in
      record {
        is = i y f.is;
        took = f.took;
        whole = f.whole;
        split = f.split;
        local = f.local;
      };
  halts = λ s u g e.
      let f = r.halts s u (k (peek s) g) e in
      record {
        took = f.took;
        split = f.split;
        local = f.local;
        some = f.some;
        more = f.more;
        is = i f.some f.is;
        whole = f.whole;
      };
}
