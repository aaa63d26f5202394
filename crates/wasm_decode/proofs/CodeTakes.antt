-- The code that is read is spelled so, and keeps to the limits.
use Rattle.std.proofs.Common.{◌≡◌, ℕ, zero, suc, ◌+◌, ◌-◌, ◌<◌, ◌≤◌, max, Bool, true, false, cond, ◌||◌, eqb, List, [], ◌∷◌, ◌++◌, ◌⊎◌, inl, inr, Some, None}
use Rattle.std.proofs.Common.{refl, sym, ap, subst, ◌∙◌, append_assoc, arith}
use Rattle.std.proofs.lemmas.Bool.{eqb-true}
use Rattle.std.proofs.lemmas.Option.{some_pair_parts, cond_some}
use Rattle.wasm_profile.specs.declared.profile.Profile.{Profile}
use Rattle.grammar.specs.Spelling.{◌⟫◌, IsByte}
use Rattle.grammar.specs.Reading.{◌>>=◌}
use Rattle.grammar.specs.Table.{row_byte_at}
use Rattle.grammar.specs.Laws.Steps.{bind_some, refused_past, either}
use Rattle.wasm_ast.specs.Code.{BlockType, Code, End, Do, Block, Loop, If, code_size}
use Rattle.wasm_decode.specs.Tables.{block_type_rows}
use Rattle.wasm_decode.specs.TypeSpelling.{IsBlockType}
use Rattle.wasm_decode.specs.OpReading.{plain_at}
use Rattle.wasm_decode.specs.CodeSpelling.{nesting, IsEither, IsCode}
use Rattle.wasm_decode.specs.CodeReading.{Instructions, Step, OneBody, TwoBodies, Inner, append, closed_at, block_at, conditional_at, as_block, as_if, as_step}
use Rattle.wasm_decode.specs.CodeReading.{step_at, before, is_last, code_at, body_at, below}
use Rattle.wasm_decode.proofs.TypeLaws.{block_type_reads}
use Rattle.wasm_decode.proofs.OpLaws.{plain_takes}
use Rattle.wasm_decode.proofs.Turns.{body_is}

abbrev pub IsLast : ℕ → Type 0
IsLast op = (op ≡ 0x0b) ⊎ (op ≡ 0x05)

is_last_true : (op : ℕ) → is_last op ≡ true → IsLast op
is_last_true op e = decided (eqb op 0x0b) (eqb op 0x05) refl refl e
  where
    decided : (a b : Bool) → eqb op 0x0b ≡ a → eqb op 0x05 ≡ b → (a || b) ≡ true → IsLast op
    decided true b x y e = inl (eqb-true op 0x0b x)
    decided false true x y e = inr (eqb-true op 0x05 y)
    decided false false x y e = absurd cc

module _ (profile : Profile) where
  -- what reading a body gives: blocks nest less deep than the number, and each instruction took one off what was left
  pub record IsBody (deep left : ℕ) (bytes : List ℕ) (r : Instructions) (rest : List ℕ) : Type 0 where
    pub nested : nesting r.code < deep
    pub used : r.left + code_size r.code ≡ left
    pub ended : IsLast r.last
    pub text : List ℕ
    pub spelled : IsCode profile r.last r.code text
    pub split : bytes ≡ text ++ rest

  abbrev pub TakesBody : ℕ → Inner → Type 0
  TakesBody deep inner = (left : ℕ) (bytes : List ℕ) (r : Instructions) (rest : List ℕ) → inner left bytes ≡ Some (r, rest) → IsBody deep left bytes r rest

  record IsOneBody (deep left : ℕ) (bytes : List ℕ) (b : OneBody) (rest : List ℕ) : Type 0 where
    nested : nesting b.body < deep
    used : b.left + code_size b.body ≡ left
    text : List ℕ
    spelled : (IsBlockType b.result ⟫ IsCode profile 0x0b b.body) text
    split : bytes ≡ text ++ rest

  record IsTwoBodies (deep left : ℕ) (bytes : List ℕ) (b : TwoBodies) (rest : List ℕ) : Type 0 where
    nested : max (nesting b.yes) (nesting b.no) < deep
    used : b.left + (code_size b.yes + code_size b.no) ≡ left
    text : List ℕ
    spelled : (IsBlockType b.result ⟫ IsEither b.no (IsCode profile 0x0b b.yes) (IsCode profile 0x05 b.yes) (IsCode profile 0x0b b.no)) text
    split : bytes ≡ text ++ rest

  -- a step after its opcode: what it makes of the instructions that come next
  record IsStep (deep op left : ℕ) (bytes : List ℕ) (i : Step) (rest : List ℕ) : Type 0 where
    text : List ℕ
    split : bytes ≡ text ++ rest
    spelled : (c : Code) (last : ℕ) (back : List ℕ) → IsCode profile last c back → IsCode profile last (append i.code c) ((op ∷ text) ++ back)
    nested : (c : Code) → nesting c ≤ deep → nesting (append i.code c) ≤ deep
    used : (c : Code) → code_size (append i.code c) + i.left ≡ code_size c + suc left

  module _ (deep : ℕ) (inner : Inner) (takes : TakesBody deep inner) where
    closed_takes : (left : ℕ) (bytes : List ℕ) (s : Step) (rest : List ℕ) → closed_at inner left bytes ≡ Some (s, rest) →
        IsBody deep left bytes (record { code = s.code; last = 0x0b; left = s.left }) rest
    unfolding closed_at
    closed_takes left bytes s rest e =
        let step = λ (b : Instructions). let made : Step = record { code = b.code; left = b.left } in made in
        let b = bind_some (inner left bytes) (λ b. cond (eqb b.0.last 0x0b) (Some (step b.0, b.1)) None) (s, rest) e in
        let g = cond_some (eqb b.0.0.last 0x0b) (step b.0.0, b.0.1) (s, rest) b.2 in
        let parts = some_pair_parts (step b.0.0) s b.0.1 rest (ap (λ (x : Step × List ℕ). Some x) g.1) in
        let t = takes left bytes b.0.0 b.0.1 b.1 in
        let closed : IsBody deep left bytes (record { code = b.0.0.code; last = 0x0b; left = b.0.0.left }) b.0.1 = record {
          nested = t.nested;
          used = t.used;
          ended = inl refl;
          text = t.text;
          spelled = subst (λ (op : ℕ). IsCode profile op b.0.0.code t.text) (eqb-true b.0.0.last 0x0b g.0) t.spelled;
          split = t.split;
        } in
        let at_step = subst (λ (x : Step). IsBody deep left bytes (record { code = x.code; last = 0x0b; left = x.left }) b.0.1) parts.0 closed in
        subst (λ (x : List ℕ). IsBody deep left bytes (record { code = s.code; last = 0x0b; left = s.left }) x) parts.1 at_step

    block_takes : (left : ℕ) (bytes : List ℕ) (b : OneBody) (rest : List ℕ) → block_at inner left bytes ≡ Some (b, rest) → IsOneBody deep left bytes b rest
    unfolding block_at
    block_takes left bytes b rest e =
        let t = bind_some (row_byte_at block_type_rows bytes)
        (λ t. closed_at inner left t.1 >>= λ b. Some (record { result = t.0; body = b.0.code; left = b.0.left }, b.1)) (b, rest) e in
        let made = λ (b : Step). let made : OneBody = record { result = t.0.0; body = b.code; left = b.left } in made in
        let s = bind_some (closed_at inner left t.0.1) (λ b. Some (made b.0, b.1)) (b, rest) t.2 in
        let parts = some_pair_parts (made s.0.0) b s.0.1 rest s.2 in
        let one = block_type_reads.takes bytes t.0.0 t.0.1 t.1 in
        let two = closed_takes left t.0.1 s.0.0 s.0.1 s.1 in
        let whole : IsOneBody deep left bytes (made s.0.0) s.0.1 = record {
          nested = two.nested;
          used = two.used;
          text = one.1 ++ two.text;
          spelled = (one.1, two.text, one.2, two.spelled, refl);
          split = one.3 ∙ ap (λ (x : List ℕ). one.1 ++ x) two.split ∙ sym (append_assoc one.1 two.text s.0.1);
        } in
        subst (λ (x : List ℕ). IsOneBody deep left bytes b x) parts.1 (subst (λ (x : OneBody). IsOneBody deep left bytes x s.0.1) parts.0 whole)

    conditional_takes : (left : ℕ) (bytes : List ℕ) (b : TwoBodies) (rest : List ℕ) → conditional_at inner left bytes ≡ Some (b, rest) →
        IsTwoBodies deep left bytes b rest
    unfolding conditional_at
    conditional_takes left bytes b rest e =
        let alone = λ (t : BlockType) (a : Instructions). let made : TwoBodies = record { result = t; yes = a.code; no = End; left = a.left } in made in
        let both = λ (t : BlockType) (a : Instructions) (n : Step). let made : TwoBodies =
        record { result = t; yes = a.code; no = n.code; left = n.left } in made in
        let t = bind_some (row_byte_at block_type_rows bytes) (λ t. inner left t.1 >>= λ a.
        cond (eqb a.0.last 0x0b) (Some (alone t.0 a.0, a.1)) (closed_at inner a.0.left a.1 >>= λ n. Some (both t.0 a.0 n.0, n.1))) (b, rest) e in
        let a = bind_some (inner left t.0.1)
        (λ a. cond (eqb a.0.last 0x0b) (Some (alone t.0.0 a.0, a.1)) (closed_at inner a.0.left a.1 >>= λ n. Some (both t.0.0 a.0 n.0, n.1))) (b, rest) t.2 in
        let first = a.0.0 in
        let one = block_type_reads.takes bytes t.0.0 t.0.1 t.1 in
        let two = takes left t.0.1 first a.0.1 a.1 in
        let P = IsTwoBodies deep left bytes b rest in
        either (eqb first.last 0x0b) (Some (alone t.0.0 first, a.0.1)) (closed_at inner first.left a.0.1 >>= λ n. Some (both t.0.0 first n.0, n.1)) (b, rest) P
        (λ y ends.
        let parts = some_pair_parts (alone t.0.0 first) b a.0.1 rest ends in
        let spelled = subst (λ (op : ℕ). IsCode profile op first.code two.text) (eqb-true first.last 0x0b y) two.spelled in
        let whole : IsTwoBodies deep left bytes (alone t.0.0 first) a.0.1 = record {
          nested = omega (arith, two.nested);
          used = omega (arith, two.used);
          text = one.1 ++ two.text;
          spelled = (one.1, two.text, one.2, inl (refl, spelled), refl);
          split = one.3 ∙ ap (λ (x : List ℕ). one.1 ++ x) two.split ∙ sym (append_assoc one.1 two.text a.0.1);
        } in
        subst (λ (x : List ℕ). IsTwoBodies deep left bytes b x) parts.1 (subst (λ (x : TwoBodies). IsTwoBodies deep left bytes x a.0.1) parts.0 whole))
        (λ n more.
        let s = bind_some (closed_at inner first.left a.0.1) (λ n. Some (both t.0.0 first n.0, n.1)) (b, rest) more in
        let parts = some_pair_parts (both t.0.0 first s.0.0) b s.0.1 rest s.2 in
        let three = closed_takes first.left a.0.1 s.0.0 s.0.1 s.1 in
        let spelled = subst (λ (op : ℕ). IsCode profile op first.code two.text) (otherwise first.last two.ended n) two.spelled in
        let whole : IsTwoBodies deep left bytes (both t.0.0 first s.0.0) s.0.1 = record {
          nested = omega (arith, two.nested, three.nested);
          used = omega (arith, two.used, three.used);
          text = one.1 ++ (two.text ++ three.text);
          spelled = (one.1, two.text ++ three.text, one.2, inr (two.text, three.text, spelled, three.spelled, refl), refl);
          split =
              one.3 ∙ ap (λ (x : List ℕ). one.1 ++ x)
              (two.split ∙ ap (λ (x : List ℕ). two.text ++ x) three.split ∙ sym (append_assoc two.text three.text s.0.1))
              ∙ sym (append_assoc one.1 (two.text ++ three.text) s.0.1);
        } in
        subst (λ (x : List ℕ). IsTwoBodies deep left bytes b x) parts.1 (subst (λ (x : TwoBodies). IsTwoBodies deep left bytes x s.0.1) parts.0 whole))
        a.2
      where
        otherwise : (op : ℕ) → IsLast op → eqb op 0x0b ≡ false → op ≡ 0x05
        otherwise op (inl e) n = absurd (let f : true ≡ false = sym (ap (λ (x : ℕ). eqb x 0x0b) e) ∙ n in cc)
        otherwise op (inr e) n = e

    -- a block or a loop before other instructions
    one_body_step : (op left : ℕ) (make : BlockType → Code → Code → Code) → ((t : BlockType) (b c : Code) → append (make t b End) c ≡ make t b c)
        → ((t : BlockType) (b c : Code) (last : ℕ) (text : List ℕ) → (IsByte op ⟫ IsBlockType t ⟫ IsCode profile 0x0b b ⟫ IsCode profile last c) text →
        IsCode profile last (make t b c) text)
        → ((t : BlockType) (b c : Code) → nesting (make t b c) ≡ max (suc (nesting b)) (nesting c)) →
        ((t : BlockType) (b c : Code) → code_size (make t b c) ≡ code_size b + code_size c + 1)
        → (bytes : List ℕ) (i : Step) (rest : List ℕ) → as_block make (block_at inner left bytes) ≡ Some (i, rest) → IsStep deep op left bytes i rest
    one_body_step op left make appended spells nests sizes bytes i rest e =
        let step = λ (b : OneBody). let made : Step = record { code = make b.result b.body End; left = b.left } in made in
        let s = bind_some (block_at inner left bytes) (λ b. Some (step b.0, b.1)) (i, rest) e in
        let b = s.0.0 in
        let parts = some_pair_parts (step b) i s.0.1 rest s.2 in
        let t = block_takes left bytes b s.0.1 s.1 in
        let p = t.spelled in
        let whole : IsStep deep op left bytes (step b) s.0.1 = record {
          text = t.text;
          split = t.split;
          spelled = λ c last back h.
              let split : t.text ++ back ≡ p.0 ++ (p.1 ++ back) = ap (λ (x : List ℕ). x ++ back) p.4 ∙ append_assoc p.0 p.1 back in
              subst (λ (x : Code). IsCode profile last x ((op ∷ t.text) ++ back)) (sym (appended b.result b.body c))
              (spells b.result b.body c last ((op ∷ t.text) ++ back)
              (op ∷ [], t.text ++ back, refl, (p.0, p.1 ++ back, p.2, (p.1, back, p.3, h, refl), split), refl));
          nested = λ c le. omega (arith, ap nesting (appended b.result b.body c), nests b.result b.body c, t.nested);
          used = λ c. omega (arith, ap code_size (appended b.result b.body c), sizes b.result b.body c, t.used);
        } in
        subst (λ (x : List ℕ). IsStep deep op left bytes i x) parts.1 (subst (λ (x : Step). IsStep deep op left bytes x s.0.1) parts.0 whole)

    two_bodies_step : (left : ℕ) (bytes : List ℕ) (i : Step) (rest : List ℕ) → as_if (conditional_at inner left bytes) ≡ Some (i, rest) →
        IsStep deep 0x04 left bytes i rest
    two_bodies_step left bytes i rest e =
        let step = λ (b : TwoBodies). let made : Step = record { code = If b.result b.yes b.no End; left = b.left } in made in
        let s = bind_some (conditional_at inner left bytes) (λ b. Some (step b.0, b.1)) (i, rest) e in
        let b = s.0.0 in
        let parts = some_pair_parts (step b) i s.0.1 rest s.2 in
        let t = conditional_takes left bytes b s.0.1 s.1 in
        let p = t.spelled in
        let whole : IsStep deep 0x04 left bytes (step b) s.0.1 = record {
          text = t.text;
          split = t.split;
          spelled = λ c last back h.
              let split : t.text ++ back ≡ p.0 ++ (p.1 ++ back) = ap (λ (x : List ℕ). x ++ back) p.4 ∙ append_assoc p.0 p.1 back in
              (0x04 ∷ [], t.text ++ back, refl, (p.0, p.1 ++ back, p.2, (p.1, back, p.3, h, refl), split), refl);
          nested = λ c le. omega (arith, t.nested);
          used = λ c. omega (arith, t.used);
        } in
        subst (λ (x : List ℕ). IsStep deep 0x04 left bytes i x) parts.1 (subst (λ (x : Step). IsStep deep 0x04 left bytes x s.0.1) parts.0 whole)

    plain_step : (op left : ℕ) (bytes : List ℕ) (i : Step) (rest : List ℕ) → as_step left (plain_at profile op bytes) ≡ Some (i, rest) →
        IsStep deep op left bytes i rest
    plain_step op left bytes i rest e =
        let step = λ (c : Code). let made : Step = record { code = c; left = left } in made in
        let s = bind_some (plain_at profile op bytes) (λ c. Some (step c.0, c.1)) (i, rest) e in
        let parts = some_pair_parts (step s.0.0) i s.0.1 rest s.2 in
        let t = plain_takes profile op bytes s.0.0 s.0.1 s.1 in
        let whole : IsStep deep op left bytes (step (Do t.instruction End)) s.0.1 = record {
          text = t.text;
          split = t.split;
          spelled = λ c last back h. (op ∷ t.text, back, t.spelled, h, refl);
          nested = λ c le. le;
          used = λ c. omega arith;
        } in
        subst (λ (x : List ℕ). IsStep deep op left bytes i x) parts.1 (subst (λ (x : Step). IsStep deep op left bytes x s.0.1) (ap step t.code ∙ parts.0) whole)

    step_takes : (op left : ℕ) (bytes : List ℕ) (i : Step) (rest : List ℕ) → step_at profile inner op left bytes ≡ Some (i, rest) →
        IsStep deep op left bytes i rest
    unfolding step_at
    step_takes op left bytes i rest e =
        let P = λ (o : ℕ). IsStep deep o left bytes i rest in
        let as_plain = as_step left (plain_at profile op bytes) in
        let from_if = cond (eqb op 0x04) (as_if (conditional_at inner left bytes)) as_plain in
        let from_loop = cond (eqb op 0x03) (as_block Loop (block_at inner left bytes)) from_if in
        either (eqb op 0x02) (as_block Block (block_at inner left bytes)) from_loop (i, rest) (P op)
        (λ y b. subst P (sym (eqb-true op 0x02 y))
        (one_body_step 0x02 left Block (λ t b c. refl) (λ t b c last text h. h) (λ t b c. refl) (λ t b c. refl) bytes i rest b))
        (λ _ more. either (eqb op 0x03) (as_block Loop (block_at inner left bytes)) from_if (i, rest) (P op)
        (λ y b. subst P (sym (eqb-true op 0x03 y))
        (one_body_step 0x03 left Loop (λ t b c. refl) (λ t b c last text h. h) (λ t b c. refl) (λ t b c. refl) bytes i rest b))
        (λ _ more. either (eqb op 0x04) (as_if (conditional_at inner left bytes)) as_plain (i, rest) (P op)
        (λ y b. subst P (sym (eqb-true op 0x04 y)) (two_bodies_step left bytes i rest b))
        (λ _ p. plain_step op left bytes i rest p)
        more)
        more)
        e

    code_takes : (n left : ℕ) (bytes : List ℕ) (r : Instructions) (rest : List ℕ) → code_at (step_at profile inner) n left bytes ≡ Some (r, rest) →
        IsBody (suc deep) left bytes r rest
    unfolding code_at
    code_takes zero left bytes r rest e = absurd cc
    code_takes (suc n) left [] r rest e = absurd cc
    code_takes (suc n) left (op ∷ bytes) r rest e =
        let over : Instructions = record { code = End; last = op; left = left } in
        let next = λ (i : Step × List ℕ). before i.0.code (code_at (step_at profile inner) n i.0.left i.1) in
        let more = cond (eqb left 0) None (step_at profile inner op (left - 1) bytes >>= next) in
        either (is_last op) (Some (over, bytes)) more (r, rest) (IsBody (suc deep) left (op ∷ bytes) r rest)
        (λ y ends.
        let parts = some_pair_parts over r bytes rest ends in
        let whole : IsBody (suc deep) left (op ∷ bytes) over bytes = record {
          nested = omega arith;
          used = omega arith;
          ended = is_last_true op y;
          text = op ∷ [];
          spelled = refl;
          split = refl;
        } in
        subst (λ (x : List ℕ). IsBody (suc deep) left (op ∷ bytes) r x) parts.1
        (subst (λ (x : Instructions). IsBody (suc deep) left (op ∷ bytes) x bytes) parts.0 whole))
        (λ _ goes_on.
        let g = refused_past (eqb left 0) (step_at profile inner op (left - 1) bytes >>= next) (r, rest) goes_on in
        let s = bind_some (step_at profile inner op (left - 1) bytes) next (r, rest) g.1 in
        let i = s.0.0 in
        let joined = λ (c : Instructions). let made : Instructions = record { code = append i.code c.code; last = c.last; left = c.left } in made in
        let v = bind_some (code_at (step_at profile inner) n i.left s.0.1) (λ c. Some (joined c.0, c.1)) (r, rest) s.2 in
        let c = v.0.0 in
        let parts = some_pair_parts (joined c) r v.0.1 rest v.2 in
        let one = step_takes op (left - 1) bytes i s.0.1 s.1 in
        let two = code_takes n i.left s.0.1 c v.0.1 v.1 in
        let low : nesting c.code ≤ deep = omega (arith, two.nested) in
        let whole : IsBody (suc deep) left (op ∷ bytes) (joined c) v.0.1 = record {
          nested = omega (arith, one.nested c.code low);
          used = omega (arith, one.used c.code, two.used, some_left left g.0);
          ended = two.ended;
          text = (op ∷ one.text) ++ two.text;
          spelled = one.spelled c.code c.last two.text two.spelled;
          split = ap (λ (x : List ℕ). op ∷ x) (one.split ∙ ap (λ (x : List ℕ). one.text ++ x) two.split ∙ sym (append_assoc one.text two.text v.0.1));
        } in
        subst (λ (x : List ℕ). IsBody (suc deep) left (op ∷ bytes) r x) parts.1
        (subst (λ (x : Instructions). IsBody (suc deep) left (op ∷ bytes) x v.0.1) parts.0 whole))
        e
      where
        some_left : (left : ℕ) → eqb left 0 ≡ false → 0 < left
        some_left zero e = absurd cc
        some_left (suc n) e = omega arith

  pub below_takes : (d : ℕ) → TakesBody d (below profile d)
  below_takes zero left bytes r rest e = absurd cc
  below_takes (suc d) left bytes r rest e = code_takes d (below profile d) (below_takes d) (suc left) left bytes r rest (sym (body_is profile d left bytes) ∙ e)

  pub closed_body : (d left : ℕ) (bytes : List ℕ) (s : Step) (rest : List ℕ) → closed_at (body_at profile d) left bytes ≡ Some (s, rest) →
      IsBody (suc d) left bytes (record { code = s.code; last = 0x0b; left = s.left }) rest
  closed_body d = closed_takes (suc d) (body_at profile d) (below_takes (suc d))
