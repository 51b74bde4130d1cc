-- Runs put behind a text, one after the other, and the text put into an output.
-- Assumes nothing.
use Prim.Native.Nat.{ℕ, zero, suc, ◌+◌, ◌-◌, ◌≤◌}
use native.Mathlib.Nat.{le_refl}
use native.Mathlib.Omega.{arith}
use mathlib.Core.Path.{◌≡◌, refl, sym, ap, ◌∙◌}
use mathlib.Core.List.{List, [], ◌∷◌, ◌++◌, append_assoc}
use lib.ListN.{length, take, drop, length-append}
use lib.Seq.{paste, take-length, take-append-add, take_at, length-take-le}
use Rattle.std.proofs.lemmas.List.{take_min, take_all}
use Rattle.std.specs.Prelude.{min}
use Rattle.records.specs.Bytes.{placed, over}
use Rattle.records.proofs.BufferLaws.{placed-more}
use Rattle.lines.specs.Text.{Adds, Put}

-- a copy of all of a run
pub paste_all : (d : List ℕ) (at : ℕ) (xs : List ℕ) → paste d at xs (length xs) ≡ placed d at xs
paste_all d at xs = ap (λ (l : List ℕ). take at d ++ l ++ drop (at + length xs) d) (take-length xs) ∙ append_assoc (take at d) xs _

-- a run that is known by another name and fits into more
pub put_as : {a b : ℕ} {d e : List ℕ} {at next : ℕ} {xs ys : List ℕ} → xs ≡ ys → a ≤ b → Put a d e at xs next → Put b d e at ys next
put_as {at = at} {xs = xs} {ys = ys} same more p =
    let long : length xs ≡ length ys = ap length same in
    record { filled = p.filled ∙ ap (placed _ at) same; ends = omega (arith, p.ends); short = omega (arith, p.short) }

module _ {a b : ℕ} {d e o : List ℕ} {at m next : ℕ} {xs ys : List ℕ} where
  -- a run, and then another right behind it
  pub put_then : at + a ≤ length d → Put a d e at xs m → Put b e o m ys next → Put (a + b) d o at (xs ++ ys) next
  put_then room p q = record {
    filled =
        q.filled
        ∙ ap (λ (l : List ℕ). placed l m ys) p.filled
        ∙ placed-more d at xs ys m (sym p.ends) (omega (arith, p.short));
    ends = simp length-append (omega (arith, p.ends, q.ends));
    short = simp length-append (omega (arith, p.short, q.short));
  }

-- a run from the first place on
pub put_at_first : {a : ℕ} {d e : List ℕ} {next : ℕ} {xs ys : List ℕ} → xs ≡ ys → Put a d e 0 xs next
    → (next ≡ length ys) × (e ≡ over ys d)
put_at_first {d = d} {ys = ys} same p =
    let q = put_as same (le_refl _) p in
    let z : 0 + length ys ≡ length ys = omega arith in (q.ends ∙ z, q.filled ∙ ap (λ (k : ℕ). ys ++ drop k d) z)

-- what is left out stays left out
take-again : (n : ℕ) (a b : List ℕ) → take n (take n a ++ b) ≡ take n (a ++ b)
take-again zero a b = refl
take-again (suc n) [] b = refl
take-again (suc n) (x ∷ a) b = ap (λ (l : List ℕ). x ∷ l) (take-again n a b)

-- as much of some words as there is room for, behind the first l bytes
pub put_behind : (l n : ℕ) (bytes words others : List ℕ) → l ≤ 343 → length bytes ≡ 343 → n ≡ min (343 - l) (length words)
    → take (l + n) (take l bytes ++ (take n words ++ others)) ≡ take 343 (take l bytes ++ words)
put_behind l n bytes words others within long is =
    let p : List ℕ = take l bytes in
    let lp : length p ≡ l = length-take-le l bytes (omega arith) in
    let ln : length (take n words) ≡ n = length-take-le n words (omega arith) in
    let both : length (p ++ take n words) ≡ l + n = length-append p (take n words) ∙ omega (arith, lp, ln) in
    let room : 343 ≡ length p + (343 - l) = omega (arith, lp) in
    let same : take n words ≡ take (343 - l) words = ap (λ (k : ℕ). take k words) is ∙ take_min (343 - l) words in
    ap (take (l + n)) (sym (append_assoc p (take n words) others))
    ∙ take_at (p ++ take n words) others (l + n) both
    ∙ ap (λ (w : List ℕ). p ++ w) same
    ∙ sym (ap (λ (k : ℕ). take k (p ++ words)) room ∙ take-append-add p words (343 - l))

-- a run that is known by another name and may have more bytes
pub adds_as : {a b : ℕ} {d e xs ys : List ℕ} → xs ≡ ys → a ≤ b → Adds a d e xs → Adds b d e ys
adds_as {d = d} {xs = xs} {ys = ys} same more p =
    let long : length xs ≡ length ys = ap length same in
    record { filled = p.filled ∙ ap (λ (l : List ℕ). take 343 (d ++ l)) same; short = omega (arith, p.short) }

-- a run, and then another behind it
pub adds_then : {a b : ℕ} {d e o xs ys : List ℕ} → Adds a d e xs → Adds b e o ys → Adds (a + b) d o (xs ++ ys)
adds_then {d = d} {xs = xs} {ys = ys} p q = record {
  filled =
      q.filled
      ∙ ap (λ (l : List ℕ). take 343 (l ++ ys)) p.filled
      ∙ take-again 343 (d ++ xs) ys
      ∙ ap (take 343) (append_assoc d xs ys);
  short = simp length-append (omega (arith, p.short, q.short));
}

-- all of a run that fits, put into an output
pub put_first : {d e s t xs : List ℕ} {next : ℕ} → s ≡ [] → Adds 343 s t xs → Put 343 d e 0 t next
    → (next ≡ length xs) × (e ≡ over xs d)
put_first {d = d} {t = t} {xs = xs} nothing p q =
    let same : t ≡ xs = p.filled ∙ ap (λ (l : List ℕ). take 343 (l ++ xs)) nothing ∙ take_all 343 xs p.short in
    let z : 0 + length xs ≡ length xs = omega arith in (
      q.ends ∙ ap (λ (l : List ℕ). 0 + length l) same ∙ z,
      q.filled ∙ ap (placed d 0) same ∙ ap (λ (k : ℕ). xs ++ drop k d) z,
    )
