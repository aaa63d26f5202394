-- The tables, and what they are as JSON.
use Rattle.std.specs.Prelude.{ℕ, List, codes, map}
use Rattle.std.specs.Borrow.{Bor}
use Rattle.serde_json.specs.Data.{Data, number, unsigned, string, array, object, member, no_members}
use Rattle.serde_json.specs.View.{items_of}
use Rattle.ledger_table.specs.declared.flags.TheConstants.{FLAGS}
use Rattle.ledger_table.specs.declared.limits.TheConstants.{LIMITS}
use Rattle.ledger_table.specs.declared.names.TheConstants.{NAMES}
use Rattle.ledger_table.specs.declared.numbers.TheConstants.{NUMBERS}

-- what a number stands for, and what to do about it
pub record Number : Type 0 where
  pub number : ℕ
  pub meaning : List ℕ
  pub advice : List ℕ

-- a flag: its number, its name, and what is so of a transaction that has it
pub record Flag : Type 0 where
  pub number : ℕ
  pub name : List ℕ
  pub meaning : List ℕ

-- from the least number to the greatest, of what
pub record Limit : Type 0 where
  pub name : List ℕ
  pub least : ℕ
  pub greatest : ℕ
  pub of : List ℕ

-- what has such a name, its characters, and the least and the greatest number of them
pub record Name : Type 0 where
  pub of : List ℕ
  pub characters : List ℕ
  pub least : ℕ
  pub greatest : ℕ

abbrev pub number_row : ℕ × Bor (List ℕ) × Bor (List ℕ) → Number
number_row r = record { number = r.0; meaning = r.1.now; advice = r.2.now }

abbrev pub flag_row : ℕ × Bor (List ℕ) × Bor (List ℕ) → Flag
flag_row r = record { number = r.0; name = r.1.now; meaning = r.2.now }

abbrev pub limit_row : Bor (List ℕ) × ℕ × ℕ × Bor (List ℕ) → Limit
limit_row r = record { name = r.0.now; least = r.1; greatest = r.2; of = r.3.now }

abbrev pub name_row : Bor (List ℕ) × Bor (List ℕ) × ℕ × ℕ → Name
name_row r = record { of = r.0.now; characters = r.1.now; least = r.2; greatest = r.3 }

-- ---- the tables; the functions above do not fit the rows of a constant, whose texts are of a type of their own

unfoldable pub all_numbers : List Number
all_numbers = map (λ r. record { number = r.0; meaning = r.1.now; advice = r.2.now }) NUMBERS

unfoldable pub all_flags : List Flag
all_flags = map (λ r. record { number = r.0; name = r.1.now; meaning = r.2.now }) FLAGS

unfoldable pub all_limits : List Limit
all_limits = map (λ r. record { name = r.0.now; least = r.1; greatest = r.2; of = r.3.now }) LIMITS

unfoldable pub all_names : List Name
all_names = map (λ r. record { of = r.0.now; characters = r.1.now; least = r.2; greatest = r.3 }) NAMES

-- ---- as JSON

abbrev pub list_json : {A : Type 0} → (A → Data) → List A → Data
list_json json rows = array (items_of (map json rows))

abbrev pub number_json : Number → Data
number_json r =
    object (member (codes "advice") (string r.advice) (member (codes "meaning") (string r.meaning)
    (member (codes "number") (number (unsigned r.number)) no_members)))

abbrev pub flag_json : Flag → Data
flag_json r =
    object (member (codes "meaning") (string r.meaning) (member (codes "name") (string r.name)
    (member (codes "number") (number (unsigned r.number)) no_members)))

abbrev pub limit_json : Limit → Data
limit_json r =
    object (member (codes "greatest") (number (unsigned r.greatest)) (member (codes "least") (number (unsigned r.least))
    (member (codes "name") (string r.name) (member (codes "of") (string r.of) no_members))))

abbrev pub name_json : Name → Data
name_json r =
    object (member (codes "characters") (string r.characters) (member (codes "greatest") (number (unsigned r.greatest))
    (member (codes "least") (number (unsigned r.least)) (member (codes "of") (string r.of) no_members))))

-- {"flags":[..],"limits":[..],"names":[..],"numbers":[..]}
abbrev pub table_json : Data
table_json =
    object (member (codes "flags") (list_json flag_json all_flags) (member (codes "limits") (list_json limit_json all_limits)
    (member (codes "names") (list_json name_json all_names) (member (codes "numbers") (list_json number_json all_numbers) no_members))))
