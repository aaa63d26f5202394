-- The operands of a block and those below it, as parts of one list that has the top last.
use Rattle.std.proofs.Common.{◌≡◌, ◌<◌, ◌≤◌, ℕ, List, [], ◌∷◌, ◌++◌, refl, sym, ap, ◌∙◌, length, reverse, take, drop, arith}
use Rattle.std.specs.Prelude.{Bool, false}
use Rattle.std.proofs.lemmas.List.{reverse-append, reverse-reverse, take-append-drop, length-reverse, length-drop, drop_all}
use Rattle.std.proofs.Math.Seq.{take-length, take-append_seam, drop-append_seam}
use Rattle.std.specs.Prelude.{Option, Some, None}
use Rattle.wasm_ast.specs.Code.{BlockType}
use Rattle.wasm_typing.specs.declared.operands.Outer.{Outer}
use Rattle.wasm_typing.specs.Marks.{mark_of}
use Rattle.wasm_typing.specs.Operands.{Frames, Operands, then, if_true, is_none, pop_result, finish}
use Rattle.wasm_ast.specs.declared.types.ValueType.{ValueType}

-- all operands are those of the block above those below it
pub all_are_parts : {A : Type 0} (h : ℕ) (xs : List A) → reverse (take (length xs) xs) ≡ reverse (drop h xs) ++ reverse (take h xs)
all_are_parts h xs =
    ap reverse (take-length xs ∙ sym (take-append-drop h xs)) ∙ reverse-append (take h xs) (drop h xs)

turned : {A : Type 0} (xs above below : List A) → reverse xs ≡ above ++ below → xs ≡ reverse below ++ reverse above
turned xs above below e = sym (reverse-reverse xs) ∙ ap reverse e ∙ reverse-append above below

upper_part : {A : Type 0} (xs above below : List A) (n : ℕ) → reverse xs ≡ above ++ below → n ≡ length below → reverse (drop n xs) ≡ above
upper_part xs above below n e h =
    let at_seam : n ≡ length (reverse below) = h ∙ sym (length-reverse below) in
    ap (λ n. reverse (drop n xs)) at_seam ∙ ap (λ xs. reverse (drop (length (reverse below)) xs)) (turned xs above below e) ∙
    ap reverse (drop-append_seam (reverse below) (reverse above)) ∙ reverse-reverse above

lower_part : {A : Type 0} (xs above below : List A) (n : ℕ) → reverse xs ≡ above ++ below → n ≡ length below → reverse (take n xs) ≡ below
lower_part xs above below n e h =
    let at_seam : n ≡ length (reverse below) = h ∙ sym (length-reverse below) in
    ap (λ n. reverse (take n xs)) at_seam ∙ ap (λ xs. reverse (take (length (reverse below)) xs)) (turned xs above below e) ∙
    ap reverse (take-append_seam (reverse below) (reverse above)) ∙ reverse-reverse below

not_none : (os : List (Option ValueType)) → 0 < length os → is_none os ≡ false
not_none [] h = absurd (omega arith)
not_none (o ∷ os) h = refl

-- operands above the height are left over at the end of a body
pub finish_over : (l : BlockType) (s s' : Operands) (h : ℕ) (os : List (Option ValueType)) → pop_result l s ≡ Some s' → reverse (drop h os) ≡ s'.types →
    h < length os → finish l s ≡ None
finish_over l s s' h os e v lt =
    let over : is_none s'.types ≡ false = ap is_none (sym v) ∙ not_none (reverse (drop h os)) (omega (arith, length-reverse (drop h os), length-drop h os)) in
    ap (λ o. then o (λ s. if_true (is_none s.types) s)) e ∙ ap (λ b. if_true b s') over

-- where none is above the height, the body ends well
pub finish_even : (l : BlockType) (s s' : Operands) (h : ℕ) (os : List (Option ValueType)) → pop_result l s ≡ Some s' → reverse (drop h os) ≡ s'.types →
    length os ≤ h → finish l s ≡ Some s'
finish_even l s s' h os e v le =
    ap (λ o. then o (λ s. if_true (is_none s.types) s)) e ∙ ap (λ ts. if_true (is_none ts) s') (sym v ∙ ap reverse (drop_all h os le))

abbrev frames : List (Option ValueType) → Bool → List (Option ValueType) → Frames
frames types unreachable lower = record { here = record { types = types; unreachable = unreachable }; lower = lower }

-- the operands round a block are back
pub frames_back : (s : Frames) (outer : Outer) (items : List (Option ValueType)) → outer ≡ mark_of s → reverse items ≡ s.here.types ++ s.lower →
    frames (reverse (drop outer.height items)) outer.is_unreachable (reverse (take outer.height items)) ≡ s
frames_back s outer items e parts =
    let h : outer.height ≡ length s.lower = ap (λ (o : Outer). o.height) e in
    let upper = upper_part items s.here.types s.lower outer.height parts h in
    let lower = lower_part items s.here.types s.lower outer.height parts h in
    ap (λ ts. frames ts outer.is_unreachable (reverse (take outer.height items))) upper ∙
    ap (λ u. frames s.here.types u (reverse (take outer.height items))) (ap (λ (o : Outer). o.is_unreachable) e) ∙
    ap (frames s.here.types s.here.unreachable) lower
