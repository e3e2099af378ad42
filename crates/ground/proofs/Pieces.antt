-- A word that is laid out of pieces has each piece at its place, and a word that has each piece at its place is laid out of them: proved
-- once, for every list of pieces, so that a law of one layout says only which pieces it has.
use Prim.Native.Nat.{ℕ, ◌+◌, ◌*◌, ◌/◌, ◌%◌, ◌^◌, ◌<◌}
use mathlib.Core.Path.{◌≡◌, sym, ◌∙◌, ap}
use mathlib.Core.List.{List, [], ◌∷◌}
use native.Mathlib.Nat.{mod-lt, mod-eq_of_lt}
use native.Mathlib.Omega.{arith}
use lib.Arith.{digits_lt}
use lib.Pow.{pow-add, mod-pow-add, mod-mod-pow, shr-shr, field, high, low, ones_lt}
use Rattle.ground.specs.Pieces.{Piece, widths, word, FitWidths}

-- each piece's number stands at its place in w
abbrev pub Placed : ℕ → List Piece → Type 0
Placed w [] = Unit {0}
Placed w (p ∷ ps) = (w / 2 ^ widths ps % 2 ^ p.width ≡ p.number) × Placed w ps

pub word_lt : (ps : List Piece) → FitWidths ps → word ps < 2 ^ widths ps
unfolding word
word_lt [] f = omega arith
word_lt (p ∷ ps) f = rw (pow-add 2 p.width (widths ps)) (digits_lt f.0 (word_lt ps f.1))

low_placed : (ps : List Piece) (w : ℕ) → FitWidths ps → w % 2 ^ widths ps ≡ word ps → Placed w ps
unfolding word
low_placed [] w f e = tt
low_placed (p ∷ ps) w f e =
    let n = p.width in
    let k = widths ps in
    let l = word_lt ps f.1 in (
      sym (field w n k) ∙ ap (λ (x : ℕ). x / 2 ^ k) e ∙ high p.number k l,
      low_placed ps w f.1 (sym (mod-mod-pow w n k) ∙ ap (λ (x : ℕ). x % 2 ^ k) e ∙ low p.number k l),
    )

placed_low : (ps : List Piece) (w : ℕ) → Placed w ps → w % 2 ^ widths ps ≡ word ps
unfolding word
placed_low [] w q = omega arith
placed_low (p ∷ ps) w q = rw (mod-pow-add w p.width (widths ps), q.0, placed_low ps w q.1)

pub laid : (ps : List Piece) → FitWidths ps → Placed (word ps) ps
laid ps f = low_placed ps (word ps) f (mod-eq_of_lt (word_lt ps f))

-- what stands in a width of bits fits it
pub placed_fit : (ps : List Piece) (w : ℕ) → Placed w ps → FitWidths ps
placed_fit [] w q = tt
placed_fit (p ∷ ps) w q = (rw q.0 at (mod-lt (w / 2 ^ widths ps) {m = 2 ^ p.width} (omega (arith, ones_lt p.width))), placed_fit ps w q.1)

pub relaid : (ps : List Piece) (w : ℕ) → w < 2 ^ widths ps → Placed w ps → w ≡ word ps
relaid ps w h q = sym (mod-eq_of_lt h) ∙ placed_low ps w q

-- two fields side by side are one
pub joined : (w lo j k : ℕ) → w / 2 ^ lo % 2 ^ (j + k) ≡ w / 2 ^ (lo + k) % 2 ^ j * 2 ^ k + w / 2 ^ lo % 2 ^ k
joined w lo j k = rw (← shr-shr w lo k) (mod-pow-add (w / 2 ^ lo) j k)

-- and a field is its two parts
pub halves : (w lo j k v : ℕ) → w / 2 ^ lo % 2 ^ (j + k) ≡ v → (w / 2 ^ (lo + k) % 2 ^ j ≡ v / 2 ^ k) × (w / 2 ^ lo % 2 ^ k ≡ v % 2 ^ k)
halves w lo j k v e = (rw (← e, ← shr-shr w lo k) (sym (field (w / 2 ^ lo) j k)), rw (← e) (sym (mod-mod-pow (w / 2 ^ lo) j k)))
