-- What `clap` finds in words by the table of commands.
use Rattle.std.proofs.Common.{◌≡◌, ◌∙◌, ℕ, ◌+◌, ◌<◌, List, [], ◌∷◌, ◌++◌, length, get_or, take, map, false, true, sym, ap, ap₂, refl, subst, arith}
use borrow.Author.Tests.{ne_eqb}
use Rattle.std.proofs.Common.{◌≢◌, ◌⊎◌, Option, Some, None, Result, Err, inl, inr}
use Rattle.std.proofs.lemmas.List.{append_assoc, map-append}
use Rattle.std.proofs.lemmas.Option.{none-some, same_Some, some_pair_parts}
use Rattle.std.specs.Borrow.{Bor}
use Rattle.std.specs.Prelude.{option_map, slice_get}
use Rattle.clap.proofs.WalkLemmas.{first_value-rows}
use Rattle.clap.specs.Built.{AddsArg, AddsSubcommand}
use Rattle.clap.specs.Faults.{fault_of, is_simple_and_free}
use Rattle.clap.specs.Kinds.{IsAmong}
use Rattle.clap.specs.Matches.{first_value, found_of}
use Rattle.clap.specs.Simple.{App, HasMatchesOf, app_of, is_simple, subcommand_of, subcommand_rows_of, with_rule, with_subcommand}
use Rattle.clap.specs.Walk.{Row, Rule, Text, is_empty, rule_of}
use Rattle.clap.specs.declared.builder.arg.Arg.{Arg}
use Rattle.clap.specs.declared.builder.command.Command.{Command}
use Rattle.clap.specs.declared.builder.command.Command.TheViews.{out-Command}
use Rattle.clap.specs.declared.error.kind.ErrorKind.{ErrorKind}
use Rattle.clap.specs.declared.error.kind.ErrorKind.TheVariants.{OutOfMemory}
use Rattle.clap.specs.declared.parser.matches.ArgMatches.{ArgMatches}
use Rattle.cli_words.proofs.Behind.{mapped}
use Rattle.cli_words.specs.Table.{TableRow, table}
use Rattle.cli_words.proofs.Reading.{none_is, reads_by}
use Rattle.cli_words.specs.Commands.{IsCommandOf, command_name}
use Rattle.cli_words.specs.Words.{IsTaskAs, IsTaskBy, IsTaskOf, MayHave, Reads, app_by, app_of_row, app_with, row_shape, rows_in, text_of}
use Rattle.cli_words.specs.declared.task.Task.{Task}
use Rattle.cli_words.specs.declared.task.WordsFault.{WordsFault}
use Rattle.cli_words.specs.declared.task.WordsFault.TheVariants as words

-- ---- a command is built

-- none of its arguments is global
abbrev pub IsLocal : Command → Type 0
IsLocal c = (out-Command c).has_globals ≡ false

pub still_local : (c d : Command) (a : Arg) → AddsArg c a d → a.global ≡ false → IsLocal c → IsLocal d
still_local c d a adds local before = rw (local, before) at adds.globals

-- one more argument
pub rule_added : (c d : Command) (a : Arg) (name : Text) (rules : List Rule) (rule : Rule) → AddsArg c a d → a.global ≡ false → rule_of a ≡ rule →
    app_of c ≡ app_by name rules → app_of d ≡ app_by name (rules ++ rule ∷ [])
rule_added c d a name rules rule adds local is before = adds.shape local ∙ ap₂ with_rule before is

-- behind other rules those of the first so many items, and then the next one
pub rules_next : {A B : Type 0} (f : B → Rule) (g : A → B) (front : List Rule) (xs : List A) (i : ℕ) (d : A) → i < length xs →
    (front ++ map f (map g (take i xs))) ++ f (g (get_or xs i d)) ∷ [] ≡ front ++ map f (map g (take (i + 1) xs))
rules_next {A} f g front xs i d within =
    append_assoc front (map f (map g (take i xs))) (f (g (get_or xs i d)) ∷ [])
    ∙ ap (λ (rs : List Rule). front ++ rs) (sym (ap (map f) (mapped g xs i d within) ∙ map-append f (map g (take i xs)) (g (get_or xs i d) ∷ [])))

-- ---- the program of some commands

not_empty : {A : Type 0} (xs : List A) (x : A) → false ≡ is_empty (xs ++ x ∷ [])
not_empty [] x = refl
not_empty (y ∷ ys) x = sym (ne_eqb (length ((y ∷ ys) ++ x ∷ [])) 0 (λ z. omega (arith, z)))

-- one more command
row_added : (rs : List TableRow) (r : TableRow) → with_subcommand (app_with rs) (row_shape r) ≡ app_with (rs ++ r ∷ [])
row_added rs r =
    λ i. record {
      top = record (app_with rs).top { is_leaf = not_empty rs r i };
      subs = sym (map-append row_shape rs (r ∷ [])) i;
    }

pub command_added : {A : Type 0} (f : A → TableRow) (c e sub : Command) (xs : List A) (i : ℕ) (d : A) (r : TableRow) → AddsSubcommand c sub e →
    IsLocal sub → app_of sub ≡ app_of_row r → r ≡ f (get_or xs i d) → i < length xs → app_of c ≡ app_with (map f (take i xs)) →
    app_of e ≡ app_with (map f (take (i + 1) xs))
command_added {A} f c e sub xs i d r adds local is row within before =
    adds.shape local ∙ ap₂ with_subcommand before (ap (λ (a : App). a.top) is ∙ ap row_shape row) ∙ row_added (map f (take i xs)) (f (get_or xs i d))
    ∙ sym (ap app_with (mapped f xs i d within))

-- ---- what was found

pub may_have : (m : ArgMatches) (name : Text) (o : Option (Bor Text)) → text_of o ≡ first_value (found_of m) name →
    MayHave (rows_in m) name o
may_have m name o e = sym (e ∙ first_value-rows (found_of m) name)

some_rows : (found : Option (Text × List Row)) (rows : List Row) → Some rows ≡ option_map (λ p. p.1) found →
    (name : Text) × (found ≡ Some (name, rows))
some_rows None rows e = absurd (none-some rows (sym e))
some_rows (Some p) rows e = (p.0, ap (λ (rs : List Row). Some (p.0, rs)) (sym (same_Some rows p.1 e)))

-- `clap` says what it finds in the words of a program of these commands
table_is_simple : is_simple (app_with table) ≡ true
unfolding table
table_is_simple = refl

-- and which words it takes
table_is_free : is_simple_and_free (app_with table) ≡ true
unfolding table
table_is_free = refl

-- the first word is the command
command_is : {A : Type 0} (f : A → Text) (ws : List A) (x : A) (t : Task) → slice_get ws 0 ≡ Some x → IsCommandOf (map f ws) t → command_name t ≡ f x
command_is f [] x t first h = absurd (none-some x first)
command_is f (w ∷ ws) x t first h = sym h ∙ ap f (same_Some w x first)

is_command : {A : Type 0} (f : A → Text) (ws : List A) (x : A) (t : Task) → slice_get ws 0 ≡ Some x → command_name t ≡ f x → IsCommandOf (map f ws) t
is_command f [] x t first h = absurd (none-some x first)
is_command f (w ∷ ws) x t first h = ap f (same_Some w x first) ∙ sym h

pub no_words : {A : Type 0} (f : A → Text) (ws : List A) → slice_get ws 0 ≡ None → (t : Task) → IsTaskOf (map f ws) t → ⊥
no_words f [] first t h = h.0
no_words f (w ∷ ws) first t h = none-some w (sym first)

pub not_taken : (ws : List Text) (c : Command) (kind : ErrorKind) (e : WordsFault) → app_of c ≡ app_with table → (e ≡ words.Usage → kind ≢ OutOfMemory) →
    (is_simple_and_free (app_of c) ≡ true → (kind ≡ OutOfMemory) ⊎ IsAmong kind (fault_of (app_of c) ws)) → Reads (IsTaskOf ws) (Err e)
not_taken ws c kind e app usage fails =
    none_is (IsTaskOf ws) e (λ is t h. elim (fails (ap is_simple_and_free app ∙ table_is_free)) [
      | inl memory ↦ usage is memory
      | inr among ↦ subst (λ (kinds : List ErrorKind). IsAmong kind kinds) (ap (λ (a : App). fault_of a ws) app ∙ h.1.taken) among
    ])

none_rows : (found : Option (Text × List Row)) → None ≡ option_map (λ p. p.1) found → found ≡ None
none_rows None none = refl
none_rows (Some p) none = absurd (none-some p.1 none)

found_of_words : (ws : List Text) (c : Command) (m : ArgMatches) → app_of c ≡ app_with table → HasMatchesOf (app_of c) ws m →
    subcommand_rows_of m ≡ subcommand_of (app_with table) ws
found_of_words ws c m app has = (has (ap is_simple app ∙ table_is_simple)).1 ∙ ap (λ (a : App). subcommand_of a ws) app

pub none_found : (ws : List Text) (c : Command) (m : ArgMatches) → app_of c ≡ app_with table → HasMatchesOf (app_of c) ws m →
    None ≡ option_map (λ p. p.1) (subcommand_rows_of m) → (t : Task) → IsTaskOf ws t → ⊥
none_found ws c m app has none t h =
    none-some (h.1.name, h.1.rows) (sym (none_rows (subcommand_rows_of m) none) ∙ found_of_words ws c m app has ∙ h.1.found)

-- a task of what was found is the task of the words, and no other task is
pub task_of_words : {A : Type 0} (f : A → Text) (ws : List A) (x : A) (name : Text) (rows : List Row) (c : Command) (m : ArgMatches)
    (r : Result Task WordsFault) → slice_get ws 0 ≡ Some x → name ≡ f x → app_of c ≡ app_with table → HasMatchesOf (app_of c) (map f ws) m →
    (is_simple_and_free (app_of c) ≡ true → fault_of (app_of c) (map f ws) ≡ []) → Some rows ≡ option_map (λ p. p.1) (subcommand_rows_of m) →
    Reads (IsTaskAs name rows) r → Reads (IsTaskOf (map f ws)) r
task_of_words f ws x name rows c m r first named app has takes there reads =
    let p = some_rows (subcommand_rows_of m) rows there in
    let found : subcommand_of (app_with table) (map f ws) ≡ Some (p.0, rows) = sym (found_of_words (map f ws) c m app has) ∙ p.1 in
    reads_by (IsTaskAs name rows) (IsTaskOf (map f ws)) r
    (λ t h. (
      is_command f ws x t first (h.0 ∙ named),
      record {
        taken = sym (ap (λ (a : App). fault_of a (map f ws)) app) ∙ takes (ap is_simple_and_free app ∙ table_is_free);
        name = p.0;
        rows = rows;
        found = found;
        values = h.1;
      },
    ))
    (λ t h. (
      command_is f ws x t first h.0 ∙ sym named,
      subst (λ (rs : List Row). IsTaskBy rs t) (some_pair_parts h.1.name p.0 h.1.rows rows (sym h.1.found ∙ found)).1 h.1.values,
    ))
    reads
