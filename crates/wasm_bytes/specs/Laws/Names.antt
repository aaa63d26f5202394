-- Reading a name takes its spelling from the front, and reads each spelling.
use Rattle.std.proofs.Common.{◌≡◌, ℕ, ◌^◌, ◌≤◌, false, cond, ltb, List, ◌++◌, length, take, drop, Some, None, refl, sym, ap, ap₂, subst, ◌∙◌, append_assoc}
use Rattle.std.proofs.Common.{arith}
use Rattle.std.specs.Prelude.{IsTrue}
use Rattle.std.specs.Str.{is_utf8}
use Rattle.std.proofs.lemmas.Bool.{ltb-false, le-ltb}
use Rattle.std.proofs.lemmas.List.{take_at, drop_at, take-append-drop, length-append, length-take}
use Rattle.std.proofs.lemmas.Option.{cond_some}
use Rattle.grammar.specs.Reads.{Reads}
use Rattle.grammar.specs.Laws.Steps.{bind_some, refused_past}
use Rattle.wasm_bytes.specs.Spelling.{IsUnsigned, IsName}
use Rattle.wasm_bytes.specs.Reading.{unsigned_at, name_at}
use Rattle.wasm_bytes.specs.Laws.Leb.{unsigned_again, unsigned_takes}

name_again : (text : List ℕ) (name rest : List ℕ) → IsName name text → name_at (text ++ rest) ≡ Some (name, rest)
unfolding name_at
name_again text name rest h =
    let k = h.1 in
    let whole : text ≡ k.0 ++ name = k.4 ∙ ap (λ (r : List ℕ). k.0 ++ r) k.3 in
    let regrouped : text ++ rest ≡ k.0 ++ (name ++ rest) = rw whole (append_assoc k.0 name rest) in
    let long : ltb (length (name ++ rest)) (length name) ≡ false = le-ltb _ _ (omega (arith, length-append name rest)) in
    rw (
      regrouped,
      unsigned_again (2 ^ 32) k.0 (length name) (name ++ rest) k.2,
      long,
      take_at name rest (length name) refl,
      drop_at name rest (length name) refl,
      h.0,
    ) refl

name_takes : (bytes : List ℕ) (name rest : List ℕ) → name_at bytes ≡ Some (name, rest) → (text : List ℕ) × IsName name text × (bytes ≡ text ++ rest)
unfolding name_at
name_takes bytes name rest e =
    let more = λ (n : ℕ × List ℕ). cond (ltb (length n.1) n.0) None (cond (is_utf8 (take n.0 n.1)) (Some (take n.0 n.1, drop n.0 n.1)) None) in
    let s = bind_some (unsigned_at (2 ^ 32) bytes) more (name, rest) e in
    let n = s.0 in
    let t = unsigned_takes (2 ^ 32) bytes n.0 n.1 s.1 in
    let p = refused_past (ltb (length n.1) n.0) (cond (is_utf8 (take n.0 n.1)) (Some (take n.0 n.1, drop n.0 n.1)) None) (name, rest) s.2 in
    let g = cond_some (is_utf8 (take n.0 n.1)) (take n.0 n.1, drop n.0 n.1) (name, rest) p.1 in
    let name-is : take n.0 n.1 ≡ name = ap (λ (x : List ℕ × List ℕ). x.0) g.1 in
    let rest-is : drop n.0 n.1 ≡ rest = ap (λ (x : List ℕ × List ℕ). x.1) g.1 in
    let long : n.0 ≤ length n.1 = ltb-false _ _ p.0 in
    let taken : n.0 ≡ length (take n.0 n.1) = omega (arith, length-take n.0 n.1) in
    let len : n.0 ≡ length name = taken ∙ ap (λ (x : List ℕ). length x) name-is in
    let whole : n.1 ≡ name ++ rest = sym (take-append-drop n.0 n.1) ∙ ap₂ (λ (x y : List ℕ). x ++ y) name-is rest-is in (
      t.0 ++ name,
      (subst (λ (x : List ℕ). IsTrue (is_utf8 x)) name-is g.0, (t.0, name, subst (IsUnsigned (2 ^ 32) t.0) len t.1, refl, refl)),
      t.2 ∙
          ap (λ (x : List ℕ). t.0 ++ x) whole ∙ sym (append_assoc t.0 name rest),
    )

pub name_reads : Reads IsName name_at
name_reads = record {
  takes = λ bytes name rest e. let t = name_takes bytes name rest e in (tt, t.0, t.1, t.2);
  again = λ name text rest _ h. name_again text name rest h;
}
