-- Reading a policy from left to right: what stands at the front of the text and the bytes after it, or nothing.
use Rattle.std.specs.Prelude.{ℕ, zero, suc, ◌+◌, Bool, true, false, List, [], ◌∷◌, length, take, drop, Option, Some, None, nat_eq, nat_le, not, ◌==◌, ◌&&◌}
use Rattle.std.specs.Prelude.{◌||◌, codes, if◌then◌else◌}
use Rattle.std.specs.List.{list_all, prefix_len}
use Rattle.std.specs.Cmp.Lexicographic.{pointwise}
use Rattle.grammar.specs.Reading.{◌>>=◌, byte_at, whole_at}
use Rattle.fab_types.specs.Limits.{is_digit, is_org_name_byte}
use Rattle.policy_language.specs.Tree as tree
use Rattle.policy_language.specs.Tree.{Rule}
use Rattle.policy_language.specs.GoodSets.{Name, Names, is_among}
use Rattle.policy_language.specs.View.{policies_of}
use Rattle.policy_language.specs.Leniency.{Leniency, strict}
use Rattle.policy_language.specs.Spelling.{decimal_after, leads_with_zero}
use Rattle.policy_language.specs.declared.policy.Policy.{Policy}
use Rattle.policy_language.specs.declared.policy.Policy.TheVariants.{Org, And, Or, OutOf}

abbrev pub after_spaces : List ℕ → List ℕ
after_spaces bytes = drop (prefix_len (λ b. b == 32) bytes) bytes

-- that byte
abbrev pub tag_at : ℕ → List ℕ → Option (List ℕ)
tag_at b bytes = byte_at bytes >>= λ t. if t.0 == b then Some t.1 else None

-- spaces, and then that byte
unfoldable pub token_at : ℕ → List ℕ → Option (List ℕ)
token_at b bytes = tag_at b (after_spaces bytes)

-- those bytes
abbrev pub word_at : List ℕ → List ℕ → Option (List ℕ)
word_at word bytes = if pointwise nat_eq (take (length word) bytes) word then Some (drop (length word) bytes) else None

-- a name in quotes
unfoldable pub quoted_at : List ℕ → Option (List ℕ × List ℕ)
quoted_at bytes =
    tag_at 39 bytes >>= λ r. (let n = prefix_len is_org_name_byte r in tag_at 39 (drop n r) >>= λ s. Some (take n r, s))

abbrev pub is_org_name : List ℕ → Bool
is_org_name name = nat_le 1 (length name) && nat_le (length name) 32 && list_all is_org_name_byte name

-- the name of an organisation that passes this test, in quotes
unfoldable pub leaf_at : (Name → Bool) → List ℕ → Option (Policy × List ℕ)
leaf_at is_known bytes = quoted_at bytes >>= λ q. if is_org_name q.0 && is_known q.0 then Some (Org q.0, q.1) else None

-- digits
unfoldable pub threshold_at : List ℕ → Option (ℕ × List ℕ)
threshold_at bytes =
    let n = prefix_len is_digit bytes in
    if nat_le 1 n && nat_le n 4 && not (leads_with_zero (take n bytes)) then Some (decimal_after 0 (take n bytes), drop n bytes) else None

-- the bracket of an operator without a threshold
abbrev pub bracket_at : Rule → List ℕ → Option (Rule × List ℕ)
bracket_at rule bytes = token_at 40 bytes >>= λ r. Some (rule, r)

-- a bracket, a threshold and a comma
abbrev pub out_of_at : List ℕ → Option (Rule × List ℕ)
out_of_at bytes = token_at 40 bytes >>= λ r. (threshold_at (after_spaces r) >>= λ n. (token_at 44 n.1 >>= λ s. Some (tree.OutOf n.0, s)))

-- an operator up to its first child
unfoldable pub opening_at : List ℕ → Option (Rule × List ℕ)
opening_at bytes =
    if pointwise nat_eq (take 3 bytes) (codes "AND")
    then bracket_at tree.And (drop 3 bytes)
    else (if pointwise nat_eq (take 2 bytes) (codes "OR")
    then bracket_at tree.Or (drop 2 bytes)
    else (if pointwise nat_eq (take 5 bytes) (codes "OutOf") then out_of_at (drop 5 bytes) else None))

-- whether another child comes (after a comma), or the operator ends
abbrev pub by_delimiter : ℕ → List ℕ → Option (Bool × List ℕ)
by_delimiter delimiter bytes = if delimiter == 44 then Some (true, bytes) else (if delimiter == 41 then Some (false, bytes) else None)

-- spaces, and then that delimiter
unfoldable pub comma_at : List ℕ → Option (Bool × List ℕ)
comma_at bytes = byte_at (after_spaces bytes) >>= λ t. by_delimiter t.0 t.1

-- a child before others
abbrev pub before : Policy → Option (List Policy × List ℕ) → Option (List Policy × List ℕ)
before p others = others >>= λ ps. Some (p ∷ ps.0, ps.1)

-- up to so many children, and the bracket after them
unfoldable pub children_at : (List ℕ → Option (Policy × List ℕ)) → ℕ → List ℕ → Option (List Policy × List ℕ)
children_at read zero bytes = None
children_at read (suc n) bytes =
    read (after_spaces bytes) >>= λ p. (comma_at p.1 >>= λ c. before p.0 (if c.0 then children_at read n c.1 else Some ([], c.1)))

-- the operator over the children, whose number its threshold fits by this test
abbrev pub made : (ℕ → ℕ → Bool) → Rule → List Policy → Option Policy
made fits tree.And children = Some (And (policies_of children))
made fits tree.Or children = Some (Or (policies_of children))
made fits (tree.OutOf n) children = if fits n (length children) then Some (OutOf n (policies_of children)) else None

-- the operator over the children, with the bytes after it
abbrev pub made_at : (ℕ → ℕ → Bool) → Rule → List Policy → List ℕ → Option (Policy × List ℕ)
made_at fits rule children rest = made fits rule children >>= λ p. Some (p, rest)

abbrev pub operator_at : (ℕ → ℕ → Bool) → (List ℕ → Option (Policy × List ℕ)) → List ℕ → Option (Policy × List ℕ)
operator_at fits read bytes = opening_at bytes >>= λ o. (children_at read 1024 o.1 >>= λ ps. made_at fits o.0 ps.0 ps.1)

abbrev pub is_quoted : List ℕ → Bool
is_quoted [] = false
is_quoted (b ∷ bytes) = b == 39

-- a policy with so many operators inside one another at most
unfoldable pub policy_at : (Name → Bool) → (ℕ → ℕ → Bool) → ℕ → List ℕ → Option (Policy × List ℕ)
policy_at is_known fits zero bytes = leaf_at is_known bytes
policy_at is_known fits (suc levels) bytes =
    if is_quoted bytes then leaf_at is_known bytes else operator_at fits (policy_at is_known fits levels) bytes

-- a threshold of at least 1 and at most the number of children
abbrev pub is_threshold : ℕ → ℕ → Bool
is_threshold n children = nat_le 1 n && nat_le n children

-- the reading that overlooks what this leniency does
abbrev pub is_known_by : Names → Leniency → Name → Bool
is_known_by orgs m name = m.any_name || is_among orgs name

abbrev pub fits_by : Leniency → ℕ → ℕ → Bool
fits_by m n children = m.any_threshold || is_threshold n children

abbrev pub policy_by : Names → Leniency → ℕ → List ℕ → Option (Policy × List ℕ)
policy_by orgs m levels = policy_at (is_known_by orgs m) (fits_by m) (levels + m.more)

-- the policy that a text is
abbrev pub policy_in_text : Names → List ℕ → Option Policy
policy_in_text orgs text = whole_at (policy_by orgs strict 8) text
