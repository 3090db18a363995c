-- A text is accepted exactly where it is one of a well formed codelist.
use Prim.Native.Nat.{ℕ, ◌+◌, ◌-◌, ◌≤◌}
use mathlib.Core.List.{List, [], ◌∷◌, ◌++◌, append-nil}
use mathlib.Core.Logic.{◌⊎◌, inl, inr, ⊎_elim}
use mathlib.Core.Option.{some}
use mathlib.Core.Path.{◌≡◌, refl, sym, ap, subst, ◌∙◌}
use native.Mathlib.Omega.{arith}
use lib.ListN.{length, take, replicate, take-append-drop}
use Rattle.codelist.specs.declared.Codelist.{Codelist}
use Rattle.codelist.specs.declared.Entry.{Entry}
use Rattle.codelist.specs.InFull.{Loaded}
use Rattle.codelist.specs.InFull.{Accepted, Refused}
use Rattle.codelist.specs.declared.Refusal.{Refusal}
use Rattle.codelist.specs.declared.Year.{Year}
use Rattle.codelist.specs.declared.Year.TheVariants.{Y2016, Y2014}
use Rattle.codelist.specs.Codelist.{blank, WellFormed}
use Rattle.codelist.specs.Write.{plain, ops_text, text_with, IsText, year2016, field_of, text_of}
use Rattle.codelist.specs.Text.{YearField, decimal, numeral_text, first_text, year_of}
use Rattle.codelist.specs.Load.{empty, refused, accepted, codelist_of, ended, load_of}
use Rattle.codelist.specs.Accepted.{AcceptedExactly}
use Rattle.codelist.specs.Refused.{Upto}
use Rattle.codelist.proofs.Years.{Naming, by-absence, by-2016, by-2014, naming, own-text}
use Rattle.codelist.proofs.Lengths.{longer-by, text-length}
use Rattle.codelist.proofs.Ratable as R
use Rattle.codelist.proofs.Steps.{step_end}
use Rattle.codelist.proofs.Classified.{Class, kept, turned_down, classify}
use Rattle.codelist.proofs.Resumed.{resumed}

-- Accepted and refused are not the same
pub not-both : {X : Type 0} (c : Codelist) (r : Refusal) → accepted c ≡ refused r → X
not-both c r e = absurd (let f : Accepted ≡ Refused r = ap (λ (x : Loaded). x.outcome) e in let z : ◌≡◌ {A = ℕ} 0 1 = cc f in omega arith)

taken : (c : Codelist) → WellFormed c → length (take c.count c.ops) ≡ c.count
taken c w = R.taken c (R.well-formed-ratable w)

-- A well formed codelist is the one of its year, its factors and its operations
codelist-is : (c : Codelist) → WellFormed c → codelist_of c.year c.factors (take c.count c.ops) ≡ c
unfolding codelist_of
codelist-is c w = λ i. record { year = c.year; factors = c.factors; count = taken c w i; ops = ops i }
  where
    xs : List Entry
    xs = take c.count c.ops

    ops : xs ++ replicate (64 - length xs) blank ≡ c.ops
    ops =
        ap (λ (m : ℕ). xs ++ replicate (64 - m) blank) (taken c w) ∙ ap (λ (ys : List Entry). xs ++ ys) (sym w.blanks)
        ∙ take-append-drop c.count c.ops

load-complete : (s : List ℕ) (c : Codelist) → WellFormed c → IsText c s → load_of s ≡ accepted c
unfolding text_with
load-complete s c w t =
    resumed s n xs [] (64 - (n + length xs)) upto (omega (arith, upto.few))
    ∙ step_end c.year n xs (64 - (n + length xs)) ∙ done xs (omega (arith, taken c w, w.some)) ∙ ap accepted (codelist-is c w)
  where
    n : ℕ
    n = c.factors

    xs : List Entry
    xs = take c.count c.ops

    upto : Upto s n xs []
    upto = record {
      short = omega (arith, text-length c w s t);
      factors = w.factors;
      field = t.field;
      year = c.year;
      names = t.names;
      few = omega (arith, taken c w, w.few);
      each = w.each;
      text = t.text ∙ ap (λ (v : List ℕ). first_text (plain n) t.field ++ v) (sym (append-nil (ops_text xs)));
    }

    done : (ys : List Entry) → 1 ≤ length ys → ended c.year n ys ≡ accepted (codelist_of c.year n ys)
    done [] h = absurd (omega arith)
    done (y ∷ ys) h = refl

load-sound : (s : List ℕ) (c : Codelist) → load_of s ≡ accepted c → WellFormed c × IsText c s
load-sound s c e = go (load_of s) e (classify s)
  where
    go : (x : Loaded) → x ≡ accepted c → Class s x → WellFormed c × IsText c s
    go x p (kept d q w t) =
        let f : d ≡ c = ap (λ (y : Loaded). y.codelist) (sym q ∙ p) in
        (subst WellFormed f w, subst (λ (k : Codelist). IsText k s) f t)
    go x p (turned_down r q u) = not-both c r (sym p ∙ q)

-- The years are two
two-years : {X : Type 0} {y : Year} → y ≡ Y2016 → y ≡ Y2014 → X
two-years p q = absurd (let e : Y2016 ≡ Y2014 = sym p ∙ q in let z : ◌≡◌ {A = ℕ} 0 1 = cc e in omega arith)

-- The texts of a codelist, by its year
module _ (s : List ℕ) (c : Codelist) where
  with-field : (f : YearField) (t : IsText c s) → t.field ≡ f → s ≡ text_with f c
  with-field f t p = t.text ∙ ap (λ (g : YearField). text_with g c) p

  only-2014 : c.year ≡ Y2014 → IsText c s → s ≡ text_of c
  unfolding text_of
  only-2014 h t = go (naming t.field c.year t.names)
    where
      go : Naming t.field c.year → s ≡ text_with (field_of c.year) c
      go (by-absence p q) = two-years q h
      go (by-2016 p q) = two-years q h
      go (by-2014 p q) = with-field _ t (p ∙ ap field_of (sym q))

  either-2016 : c.year ≡ Y2016 → IsText c s → (s ≡ text_of c) ⊎ (s ≡ text_with year2016 c)
  unfolding text_of
  either-2016 h t = go (naming t.field c.year t.names)
    where
      go : Naming t.field c.year → (s ≡ text_with (field_of c.year) c) ⊎ (s ≡ text_with year2016 c)
      go (by-absence p q) = inl (with-field _ t (p ∙ ap field_of (sym q)))
      go (by-2016 p q) = inr (with-field _ t p)
      go (by-2014 p q) = two-years h q

  both-2016 : c.year ≡ Y2016 → (s ≡ text_of c) ⊎ (s ≡ text_with year2016 c) → IsText c s
  unfolding year_of
  both-2016 h = ⊎_elim (λ e. subst (IsText c) (sym e) (own-text c)) (λ e. record { field = year2016; names = ap some (sym h); text = e })

differ-2016 : (c : Codelist) → c.year ≡ Y2016 → text_of c ≡ text_with year2016 c → ⊥
unfolding text_of numeral_text decimal
differ-2016 c h e = omega (arith, longer-by year2016 c, ap length (ap (λ (y : Year). text_with (field_of y) c) (sym h) ∙ e))

-- ACCEPTED EXACTLY WHERE WRITTEN
pub accepted-exactly : AcceptedExactly
accepted-exactly = record {
  where-written = λ s c. (load-sound s c, λ p. load-complete s c p.0 p.1);
  one-codelist = λ s c d v w t u. ap (λ (x : Loaded). x.codelist) (sym (load-complete s c v t) ∙ load-complete s d w u);
  one-text = only-2014;
  two-texts = λ s c h. (either-2016 s c h, both-2016 s c h);
  two-differ = differ-2016;
}

-- What a load ensures of the codelist that it hands over
pub accepted-well-formed : (s : List ℕ) → (load_of s).outcome ≡ Accepted → WellFormed (load_of s).codelist
accepted-well-formed s e = go (load_of s) e (classify s)
  where
    go : (x : Loaded) → x.outcome ≡ Accepted → Class s x → WellFormed x.codelist
    go x p (kept c q w t) = subst WellFormed (sym (ap (λ (y : Loaded). y.codelist) q)) w
    go x p (turned_down r q u) = absurd (let f : Accepted ≡ Refused r = sym p
        ∙ ap (λ (y : Loaded). y.outcome) q in let z : ◌≡◌ {A = ℕ} 0 1 = cc f in omega arith)

pub refused-empty : (s : List ℕ) (r : Refusal) → (load_of s).outcome ≡ Refused r → (load_of s).codelist ≡ empty
refused-empty s r e = go (load_of s) e (classify s)
  where
    go : (x : Loaded) → x.outcome ≡ Refused r → Class s x → x.codelist ≡ empty
    go x p (kept c q w t) = absurd (let f : Accepted ≡ Refused r = sym (ap (λ (y : Loaded). y.outcome) q)
        ∙ p in let z : ◌≡◌ {A = ℕ} 0 1 = cc f in omega arith)
    go x p (turned_down k q u) = ap (λ (y : Loaded). y.codelist) q
