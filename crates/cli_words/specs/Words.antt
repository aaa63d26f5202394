-- Which task words name: what `clap` finds in them by the table of commands, as values.
use Rattle.std.specs.Prelude.{◌≡◌, ◌⊎◌, ◌==◌, ◌++◌, ◌≤◌, ℕ, List, [], Bool, true, false, Option, Some, None, Result, Ok, Err, codes, length, map, replicate}
use Rattle.std.specs.Prelude.{if◌then◌else◌, option_map}
use Rattle.std.specs.Borrow.{Bor}
use Rattle.std.specs.Option.{option_map_or}
use Rattle.std.specs.Str.{bytes_eq}
use Rattle.std.specs.Str.Parse.{IsNumeral, digits_value, without_leading_plus}
use Rattle.clap.specs.Faults.{fault_of}
use Rattle.clap.specs.Matches.{found_of}
use Rattle.clap.specs.Simple.{App, Shape, new_rule, new_shape, subcommand_of}
use Rattle.clap.specs.Walk.{Row, Rule, Text, first_of, is_empty, one_of, rows_of}
use Rattle.clap.specs.declared.builder.action.ArgAction.TheVariants.{Set, SetTrue}
use Rattle.clap.specs.declared.parser.matches.ArgMatches.{ArgMatches}
use Rattle.hex.specs.Hex.{decode_of, decode_sized}
use Rattle.fab_types.specs.Limits.{IsKey, IsName, IsOrgName, IsValue}
use Rattle.fab_types.specs.declared.limits.TheConstants.{LAST_BLOCK}
use Rattle.fab_types.specs.declared.proposal.Call.{Call}
use Rattle.fab_types.specs.declared.proposal.Proposal.{Proposal}
use Rattle.fab_types.specs.declared.proposal.Proposal.TheVariants as proposal
use Rattle.wasm_profile.specs.declared.profile.Profile.{Profile}
use Rattle.wasm_profile.specs.declared.profile.Profile.TheVariants.{Core1, SignExtension}
use Rattle.cli_words.specs.Commands.{IsCommandOf, command_name, work_name}
use Rattle.cli_words.specs.Table.{TableRow, table}
use Rattle.cli_words.specs.declared.task.Beginning.{Beginning}
use Rattle.cli_words.specs.declared.task.StatePart.{StatePart}
use Rattle.cli_words.specs.declared.task.StatePart.TheVariants as asked
use Rattle.cli_words.specs.declared.task.Task.{Task}
use Rattle.cli_words.specs.declared.task.Task.TheVariants as task
use Rattle.cli_words.specs.declared.task.Work.{Work}
use Rattle.cli_words.specs.declared.task.Work.TheVariants as work
use Rattle.cli_words.specs.declared.task.WordsFault.{WordsFault}
use Rattle.cli_words.specs.declared.task.WordsFault.TheVariants as words

-- ---- the table as `clap` is told of it

-- a word that has to be there, in its place
abbrev pub word_rule : Text → Rule
word_rule name = record (new_rule name) { required = true; action = Some Set }

-- an option, with one value or none
abbrev pub option_rule : (name value : Text) → Rule
option_rule name value = record (new_rule name) { long = Some name; action = Some (if length value == 0 then SetTrue else Set) }

abbrev pub row_rules : TableRow → List Rule
row_rules row = map word_rule row.words ++ map (λ o. option_rule o.0 o.1) row.options

abbrev pub with_rules : Text → List Rule → Shape
with_rules name rules = record (new_shape name) { rules = rules }

abbrev pub row_shape : TableRow → Shape
row_shape row = with_rules row.name (row_rules row)

-- a command of these rules alone
abbrev pub app_by : Text → List Rule → App
app_by name rules = record { top = with_rules name rules; subs = [] }

abbrev pub app_of_row : TableRow → App
app_of_row row = record { top = row_shape row; subs = [] }

-- a program of these commands, one of which has to be there
abbrev pub app_with : List TableRow → App
app_with rs = record {
  top = record (new_shape (codes "ledger")) { no_binary_name = true; subcommand_required = true; is_leaf = is_empty rs };
  subs = map row_shape rs;
}

-- what `clap` finds behind the command, by the names of the table: the texts of words and options
abbrev pub rows_in : ArgMatches → List Row
rows_in m = rows_of (found_of m)

-- ---- reading

-- A reading gives a value of which this is so, where some value is, and the words are refused where none is. Memory may be wanted
abbrev pub Reads : {A : Type 0} → (A → Type 0) → Result A WordsFault → Type 0
Reads Is (Ok a) = Is a
Reads Is (Err words.Memory) = Unit {0}
Reads {A} Is (Err words.Usage) = (a : A) → ¬ (Is a)

-- ---- the values that texts spell

-- digits stand for a number, in decimal
pub record IsNumber (digits : Text) (n : ℕ) : Type 0 where
  pub numeral : IsNumeral 10 (without_leading_plus digits)
  pub value : n ≡ digits_value 10 (without_leading_plus digits)

abbrev pub SpellsCount : Text → ℕ → Type 0
SpellsCount digits n = IsNumber digits n × (1 ≤ n) × (n ≤ 1000)

-- the number of a block, or 0
abbrev pub SpellsBlock : Text → ℕ → Type 0
SpellsBlock digits n = IsNumber digits n × (n ≤ LAST_BLOCK)

abbrev pub profile_word : Profile → Text
profile_word Core1 = codes "1"
profile_word SignExtension = codes "2"

abbrev pub SpellsProfile : Text → Profile → Type 0
SpellsProfile digits profile = digits ≡ profile_word profile

abbrev pub SpellsKey : Text → List ℕ → Type 0
SpellsKey digits key = IsKey key × (decode_of digits ≡ Ok key)

-- hex, or `-` for none
abbrev pub SpellsArgument : Text → List ℕ → Type 0
SpellsArgument digits bytes = IsValue bytes × (((digits ≡ codes "-") × (bytes ≡ [])) ⊎ (decode_of digits ≡ Ok bytes))

abbrev pub SpellsNonce : Text → List ℕ → Type 0
SpellsNonce digits nonce = decode_sized digits 16 ≡ Ok nonce

-- the name of an organisation
abbrev pub SpellsOrg : Text → Option Text → Type 0
SpellsOrg name org = IsOrgName name × (org ≡ Some name)

-- the value of a text, if there is one, and else this other one
abbrev pub OrElse : {A : Type 0} → (Text → A → Type 0) → A → Option Text → A → Type 0
OrElse Spells other None a = a ≡ other
OrElse Spells other (Some text) a = Spells text a

-- ---- what was found

-- this text stands under this name
abbrev pub Has : List Row → Text → Text → Type 0
Has rows name text = first_of name rows ≡ Some text

abbrev pub text_of : Option (Bor Text) → Option Text
text_of = option_map (λ text. text.now)

-- so does this text, if it is there
abbrev pub MayHave : List Row → Text → Option (Bor Text) → Type 0
MayHave rows name text = first_of name rows ≡ text_of text

-- an option with no value was given: `clap` has the text `true` for it
abbrev pub is_given : List Row → Text → Bool
is_given rows name = option_map_or (λ text. bytes_eq text (codes "true")) (one_of name rows) false

abbrev pub IsChaincodeBy : List Row → Text → Type 0
IsChaincodeBy rows name = IsName name × Has rows (codes "CHAINCODE") name

abbrev pub IsProfileBy : List Row → Profile → Type 0
IsProfileBy rows = OrElse SpellsProfile Core1 (first_of (codes "profile") rows)

-- a call, whose nonce this text spells, if there is one, and else zeros
abbrev pub IsCallBy : List Row → (nonce : Option Text) → Call → Type 0
IsCallBy rows nonce call =
    OrElse SpellsNonce (replicate 16 0) nonce call.nonce × ((digits : Text) × Has rows (codes "ARG") digits × SpellsArgument digits call.argument)
    × IsChaincodeBy rows call.chaincode

abbrev pub IsProposedBy : List Row → Proposal → Type 0
IsProposedBy rows (proposal.Call call) = IsCallBy rows (first_of (codes "nonce") rows) call
IsProposedBy rows other = ⊥

abbrev pub IsPartBy : List Row → StatePart → Type 0
IsPartBy rows asked.Entries = (first_of (codes "key") rows ≡ None) × (is_given rows (codes "members") ≡ false)
IsPartBy rows (asked.Writes key) =
    ((digits : Text) × Has rows (codes "key") digits × SpellsKey digits key) × (is_given rows (codes "members") ≡ false)
IsPartBy rows asked.Members = (first_of (codes "key") rows ≡ None) × (is_given rows (codes "members") ≡ true)

-- ---- tasks

abbrev pub IsBeginningBy : List Row → Beginning → Type 0
IsBeginningBy rows b = Has rows (codes "GENESIS") b.genesis.now × MayHave rows (codes "modules") b.modules × MayHave rows (codes "keys") b.keys

abbrev pub IsWorkBy : List Row → Work → Type 0
IsWorkBy rows (work.Simulate p store) = IsProposedBy rows p × MayHave rows (codes "store") store
IsWorkBy rows (work.Run events store) = Has rows (codes "EVENTS") events.now × MayHave rows (codes "store") store
IsWorkBy rows (work.Threads chaincode rounds) =
    ((digits : Text) × Has rows (codes "ROUNDS") digits × SpellsCount digits rounds) × IsChaincodeBy rows chaincode
IsWorkBy rows (work.Audit store) = Has rows (codes "STORE") store.now
IsWorkBy rows (work.Show store from to) =
    Has rows (codes "STORE") store.now × OrElse SpellsBlock 1 (first_of (codes "from") rows) from
    × OrElse SpellsBlock LAST_BLOCK (first_of (codes "to") rows) to
IsWorkBy rows (work.State store at part) =
    Has rows (codes "STORE") store.now × OrElse SpellsBlock LAST_BLOCK (first_of (codes "at") rows) at × IsPartBy rows part
IsWorkBy rows (work.Trace call most) = OrElse SpellsCount 1000 (first_of (codes "steps") rows) most × IsCallBy rows None call
IsWorkBy rows (work.Peer org store) = OrElse SpellsOrg None (first_of (codes "org") rows) org × Has rows (codes "STORE") store.now
IsWorkBy rows (work.Marks store) = Has rows (codes "STORE") store.now
IsWorkBy rows (work.Checkpoint store file) = Has rows (codes "STORE") store.now × Has rows (codes "FILE") file.now

abbrev pub IsTaskBy : List Row → Task → Type 0
IsTaskBy rows (task.Check m profile) = Has rows (codes "MODULE") m.now × IsProfileBy rows profile
IsTaskBy rows (task.Digest m profile) = Has rows (codes "MODULE") m.now × IsProfileBy rows profile
IsTaskBy rows (task.Public keys) = Has rows (codes "KEYS") keys.now
IsTaskBy rows (task.Version has_table) = has_table ≡ is_given rows (codes "table")
IsTaskBy rows (task.Work b w) = IsBeginningBy rows b × IsWorkBy rows w

-- the same by the name of its command
abbrev pub IsTaskAs : Text → List Row → Task → Type 0
IsTaskAs name rows t = (command_name t ≡ name) × IsTaskBy rows t

abbrev pub IsWorkAs : Text → List Row → Work → Type 0
IsWorkAs name rows w = (work_name w ≡ name) × IsWorkBy rows w

-- the same of a task with a genesis
abbrev pub IsWorkTask : Text → List Row → Task → Type 0
IsWorkTask name rows (task.Work b w) = IsBeginningBy rows b × IsWorkAs name rows w
IsWorkTask name rows other = ⊥

-- the words are those of a command of the table, each of its words once and each option at most once, and the values are those that `clap` finds there
pub record IsFoundIn (ws : List Text) (t : Task) : Type 0 where
  pub taken : fault_of (app_with table) ws ≡ []
  pub name : Text
  pub rows : List Row
  pub found : subcommand_of (app_with table) ws ≡ Some (name, rows)
  pub values : IsTaskBy rows t

-- words name a task: the first is its command, the others its values
abbrev pub IsTaskOf : List Text → Task → Type 0
IsTaskOf ws t = IsCommandOf ws t × IsFoundIn ws t
