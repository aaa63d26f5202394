-- A line spells at most one question, and that of a call no other.
use Rattle.std.proofs.Common.{◌≡◌, ℕ, List, [], codes, Result, Some, Ok, refl, sym, ap, subst, ◌∙◌, if◌then◌else◌}
use Rattle.std.proofs.lemmas.List.{map-id}
use Rattle.std.specs.Str.{bytes_eq}
use Rattle.hex.specs.Hex.{decode_sized}
use Rattle.serde_json.specs.Data.{Data, Items, Members as Fields, array, member, no_members}
use Rattle.serde_json.specs.Read.{read}
use Rattle.json_fields.specs.Lists.{AreItems}
use Rattle.json_fields.proofs.ReadItems.{AreItems-same}
use Rattle.json_fields.proofs.Rests.{members_in, rest, first, text_in}
use Rattle.fab_types.specs.Limits.{IsName}
use Rattle.json_events.specs.Spelling.{IsArgument, IsHex}
use Rattle.json_events.proofs.Arguments.{one_standing}
use Rattle.json_questions.specs.declared.question.Question.{Question}
use Rattle.json_questions.specs.declared.question.Question.TheVariants.{Setting, Members, Block, Get, Range, History, HistoryPart, Transaction, Satisfied, Call}
use Rattle.json_questions.specs.Spelling.{IsOrg, IsQuestion, SpellsQuestion, call_object}

same_ok : {A E : Type 0} (r : Result A E) (a b : A) → r ≡ Ok a → r ≡ Ok b → a ≡ b
same_ok {A} {E} r a b e f = let h = sym e ∙ f in cc

abbrev key : Fields → List ℕ
key no_members = []
key (member k d ms) = k

-- the word by which a line asks: of a call it stands second. A history has its key behind it, and a part of one a count of blocks
abbrev word_in : Data → List ℕ
word_in d =
    if bytes_eq (key (members_in d)) (codes "ask") then text_in (first (members_in d)) else text_in (first (rest (members_in d)))

abbrev form_by : (word second : List ℕ) → ℕ
form_by word second =
    if bytes_eq word (codes "setting") then 0 else if bytes_eq word (codes "block") then 1 else if bytes_eq word (codes "get") then 2
    else if bytes_eq word (codes "range") then 3 else if bytes_eq word (codes "history") then (if bytes_eq second (codes "key") then 4 else 9)
    else if bytes_eq word (codes "transaction") then 5
    else if bytes_eq word (codes "satisfied") then 6 else if bytes_eq word (codes "members") then 8 else 7

abbrev form_in : Data → ℕ
form_in d = form_by (word_in d) (key (rest (members_in d)))

abbrev form_of : Question → ℕ
form_of Setting = 0
form_of Members = 8
form_of (Block n) = 1
form_of (Get k) = 2
form_of (Range start end limit) = 3
form_of (History k) = 4
form_of (HistoryPart k from blocks) = 9
form_of (Transaction id) = 5
form_of (Satisfied chaincode orgs) = 6
form_of (Call chaincode argument) = 7

of_a_call : (arg : Data) (chaincode : List ℕ) → form_in (call_object arg chaincode) ≡ 7
of_a_call (array texts) chaincode = refl
of_a_call arg chaincode = refl

of_its_form : (d : Data) (q : Question) → IsQuestion d q → form_in d ≡ form_of q
of_its_form d Setting h = ap form_in h
of_its_form d Members h = ap form_in h
of_its_form d (Block n) h = ap form_in h.0
of_its_form d (Get k) h = ap form_in h.1
of_its_form d (Range start end limit) h = ap form_in h.2
of_its_form d (History k) h = ap form_in h.1
of_its_form d (HistoryPart k from blocks) h = ap form_in h.1
of_its_form d (Transaction id) h = ap form_in h.1
of_its_form d (Satisfied chaincode orgs) h = ap form_in h.1
of_its_form d (Call chaincode argument) h = ap form_in h.1 ∙ of_a_call h.0 chaincode

-- where the fields of a call hold none, it spells no question
pub no_call : (arg : Data) (chaincode : List ℕ) → ((a : List ℕ) → IsName chaincode → ¬ IsArgument arg a)
    → (q : Question) → ¬ IsQuestion (call_object arg chaincode) q
no_call arg chaincode none (Call c a) h =
    let e = h.1 in
    let args : h.0 ≡ arg = cc in
    let names : c ≡ chaincode = cc in
    none a (subst IsName names h.2) (subst (λ d. IsArgument d a) args h.3)
no_call arg chaincode none q h = let same = sym (of_a_call arg chaincode) ∙ of_its_form (call_object arg chaincode) q h in cc

one_hex : (s t a b : List ℕ) → s ≡ t → IsHex s a → IsHex t b → a ≡ b
one_hex s t a b same h k = same_ok _ a b (subst (λ x. IsHex x a) same h) k

one_org : (d : Data) (a b : List ℕ) → IsOrg d a → IsOrg d b → a ≡ b
one_org d a b h k = let e = sym h.0 ∙ k.0 in cc

pub one_list : (ds : Items) (xs ys : List (List ℕ)) → AreItems IsOrg ds xs → AreItems IsOrg ds ys → xs ≡ ys
one_list ds xs ys h k = sym (map-id xs) ∙ AreItems-same IsOrg (λ (n : List ℕ). n) one_org ds xs ys h k ∙ map-id ys

one_question : (d : Data) (q r : Question) → IsQuestion d q → IsQuestion d r → form_of q ≡ form_of r → q ≡ r
one_question d Setting Setting h k same = refl
one_question d Members Members h k same = refl
one_question d (Block m) (Block n) h k same = let e = sym h.0 ∙ k.0 in cc
one_question d (Get a) (Get b) h k same =
    let e = sym h.1 ∙ k.1 in
    let hex : h.0 ≡ k.0 = cc in
    ap Get (one_hex h.0 k.0 a b hex h.2.0 k.2.0)
one_question d (Range s e n) (Range t f m) h k same =
    let eq = sym h.2 ∙ k.2 in
    let from : h.0 ≡ k.0 = cc in
    let below : h.1 ≡ k.1 = cc in
    let limits : n ≡ m = cc in
    let starts : s ≡ t = one_hex h.0 k.0 s t from h.3.0 k.3.0 in
    let ends : e ≡ f = one_hex h.1 k.1 e f below h.4.0 k.4.0 in
    cc
one_question d (History a) (History b) h k same =
    let e = sym h.1 ∙ k.1 in
    let hex : h.0 ≡ k.0 = cc in
    ap History (one_hex h.0 k.0 a b hex h.2.0 k.2.0)
one_question d (HistoryPart a m p) (HistoryPart b n q) h k same =
    let e = sym h.1 ∙ k.1 in
    let hex : h.0 ≡ k.0 = cc in
    let froms : m ≡ n = cc in
    let blocks : p ≡ q = cc in
    let keys : a ≡ b = one_hex h.0 k.0 a b hex h.2.0 k.2.0 in
    cc
one_question d (Transaction a) (Transaction b) h k same =
    let e = sym h.1 ∙ k.1 in
    let hex : h.0 ≡ k.0 = cc in
    ap Transaction (same_ok _ a b (subst (λ x. decode_sized x 32 ≡ Ok a) hex h.2) k.2)
one_question d (Satisfied c a) (Satisfied f b) h k same =
    let e = sym h.1 ∙ k.1 in
    let items : h.0 ≡ k.0 = cc in
    let names : c ≡ f = cc in
    let orgs : a ≡ b = one_list k.0 a b (subst (λ ds. AreItems IsOrg ds a) items h.3.0) k.3.0 in
    cc
one_question d (Call c a) (Call f b) h k same =
    let e = sym h.1 ∙ k.1 in
    let arg : h.0 ≡ k.0 = cc in
    let names : c ≡ f = cc in
    let arguments : a ≡ b = one_standing k.0 a b (subst (λ d. IsArgument d a) arg h.3).0 k.3.0 in
    cc
one_question d q r h k same = cc

one_data : (text : List ℕ) (d e : Data) → read text ≡ Some d → read text ≡ Some e → d ≡ e
one_data text d e h k = let same = sym h ∙ k in cc

pub one : (line : List ℕ) (q r : Question) → SpellsQuestion line q → SpellsQuestion line r → q ≡ r
one line q r h k =
    let other = subst (λ d. IsQuestion d r) (sym (one_data line h.0 k.0 h.1 k.1)) k.2 in
    one_question h.0 q r h.2 other (sym (of_its_form h.0 q h.2) ∙ of_its_form h.0 r other)
