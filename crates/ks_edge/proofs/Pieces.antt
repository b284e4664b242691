-- The front of the bytes left, and what comes after it.
use Rattle.std.proofs.Common.{◌≡◌, ℕ, zero, suc, ◌+◌, ◌-◌, ◌<◌, List, [], ◌∷◌, ◌++◌, take, drop, length, refl, sym, ap, arith, ◌∙◌, add-zero}
use Rattle.std.proofs.lemmas.List.{drop-drop, take_at, take_rest}
use Rattle.ks_edge.specs.Memory.{next_size}

front_and_rest : (size : ℕ) (bs : List ℕ) → take size bs ++ drop (length (take size bs)) bs ≡ bs
front_and_rest zero bs = refl
front_and_rest (suc size) [] = refl
front_and_rest (suc size) (b ∷ bs) = ap (λ xs. b ∷ xs) (front_and_rest size bs)

pub gave : (all bytes bs buf old left : List ℕ) (p r size : ℕ) → all ≡ bytes → bs ≡ take (length all - p) (drop p all) → r ≡ length (take size bs) →
    buf ≡ take size bs ++ drop r old → left ≡ drop p bytes → left ≡ take r buf ++ drop (p + r) bytes
gave all bytes bs buf old left p r size e f g h i =
    let d : bs ≡ drop p bytes = cc (take_rest all p) in
    let t : take r buf ≡ take size bs = ap (take r) h ∙ take_at (take size bs) (drop r old) r (sym g) in
    let w : take size bs ++ drop r bs ≡ bs = ap (λ n. take size bs ++ drop n bs) g ∙ front_and_rest size bs in
    cc (drop-drop r p bytes)

pub some_size : (sizes : List ℕ) (room : ℕ) → 0 < room → 0 < next_size sizes room
some_size [] room h = h
some_size (size ∷ sizes) room h = omega arith

nothing_left : (bs : List ℕ) (size : ℕ) → 0 < size → length (take size bs) ≡ 0 → bs ≡ []
nothing_left [] size h e = refl
nothing_left (b ∷ bs) zero h e = absurd (omega arith)
nothing_left (b ∷ bs) (suc size) h e = absurd (omega arith)

pub ended : (all bytes bs : List ℕ) (p r size : ℕ) → all ≡ bytes → bs ≡ take (length all - p) (drop p all) → r ≡ length (take size bs) → 0 < size → r ≡ 0 → drop (p + r) bytes ≡ []
ended all bytes bs p r size e f g h z =
    let n : bs ≡ [] = nothing_left bs size h (sym g ∙ z) in
    cc (take_rest all p, add-zero p)
