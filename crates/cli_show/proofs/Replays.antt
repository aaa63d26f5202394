-- What commands come to that replay a store.
use Rattle.std.proofs.Common.{◌≡◌, ◌<◌, ◌++◌, ℕ, Bool, true, false, [], ◌∷◌, Option, Some, None, IfSome, Result, Ok, Err, IfErr, OnErr, OnOk, length}
use Rattle.std.proofs.Common.{inl, inr, refl, sym, ap, ◌∙◌, subst}
use Rattle.endorsement_policy.specs.Endorsed.{Listed}
use Rattle.ledger_model.specs.Chain.{Bytes, Chain}
use Rattle.block_store.specs.declared.end.End.{End}
use Rattle.block_store.specs.declared.end.End.TheVariants.{Clean, Torn, Damaged, DeviceFailed}
use Rattle.kept_state.specs.Keeping.{chain_of}
use Rattle.ledger_setting.specs.Rule.{table_of}
use Rattle.ledger_setting.specs.declared.genesis.Genesis.{Genesis}
use Rattle.store_replay.specs.Replay.{ReplaysFrom}
use Rattle.store_replay.specs.declared.replaying.Replayed.{Replayed}
use Rattle.json_chain.specs.Endings.{ending_json}
use Rattle.cli_lines.proofs.Answering.{answers_by, begins_by}
use Rattle.cli_lines.specs.Told.{Answers, Begins, IsBrokenOff, IsMore, IsSilent, Tells, Told}
use Rattle.cli_lines.specs.declared.failure.Failure.{Failure}
use Rattle.cli_show.specs.Answers.{ShowsPart, StateBegins, States, UnlessFault, end_fault, fault_of, part_json}
use Rattle.cli_show.specs.Findings.{EndsBy, ShowsReplay, ends_with}
use Rattle.cli_show.specs.Lines.{AreFirstLines, HasLines, PrintsFirst, chain_json}
use Rattle.cli_show.specs.declared.showing.Part.{Part}
use Rattle.cli_show.proofs.Answering.{lines_printed, untold}
use Rattle.cli_show.proofs.Behind.{more_lines}
use Rattle.cli_show.proofs.First.{begins_first, fault_begins}

-- a fault is told with nothing printed, and where there is none the task is done
pub unless_fault : (o : Option Failure) (Comes : Result (Unit {0}) Failure → Bytes → Type 0) (t u : Told) (r : Result (Unit {0}) Failure) →
    IfSome o (λ failure. (r ≡ Err failure) × (u ≡ t)) → (o ≡ None → Answers Comes t u r) → Answers (UnlessFault o Comes) t u r
unless_fault None Comes t u r fault comes = comes refl
unless_fault (Some failure) Comes t u r fault comes =
    subst (λ (v : Told). Answers (UnlessFault (Some failure) Comes) t v r) (sym fault.1)
    (untold (UnlessFault (Some failure) Comes) t r (fault.0, refl))

part_told : (l : Listed) (part : Part) (at : ℕ) (chain : Chain) (t u : Told) (r : Result (Unit {0}) Failure) → Tells t u r →
    OnOk r (HasLines (part_json l part at chain) t.bytes u.bytes) → IfErr r IsBrokenOff → Answers (ShowsPart l part at chain) t u r
part_told l part at chain t u (Ok x) tells lines lost =
    let p = lines_printed (part_json l part at chain) t u tells.0 tells.1 lines in
    inr (p.0, (refl, p.1), p.2)
part_told l part at chain t u (Err f) tells lines lost = inl lost

pub state_told : (g : Genesis) (part : Part) (at : ℕ) (held : Option Bytes) (r : Replayed) (t u : Told) (answer : Result (Unit {0}) Failure) →
    ReplaysFrom (table_of g.rules.value) held r → Tells t u answer → IfSome (fault_of r) (λ failure. (answer ≡ Err failure) × (u ≡ t)) →
    OnOk answer (HasLines (part_json g.rules.value part at (chain_of r.chain)) t.bytes u.bytes) →
    (fault_of r ≡ None → IfErr answer IsBrokenOff) → Answers (States g part at held) t u answer
state_told g part at held r t u answer replay tells fault lines lost =
    let l = g.rules.value in
    let chain = (chain_of r.chain) in
    answers_by (UnlessFault (fault_of r) (ShowsPart l part at chain)) (States g part at held) t u answer (λ text h. (r, replay, h))
    (unless_fault (fault_of r) (ShowsPart l part at chain) t u answer fault
    (λ none. part_told l part at chain t u answer tells lines (lost none)))

-- what `state` begins
pub state_begun : (g : Genesis) (part : Part) (at : ℕ) (held : Option Bytes) (r : Replayed) (t u : Told) (answer : Result (Unit {0}) Failure) →
    ReplaysFrom (table_of g.rules.value) held r → IfSome (fault_of r) (λ failure. (answer ≡ Err failure) × (u ≡ t)) →
    OnErr answer (PrintsFirst (part_json g.rules.value part at (chain_of r.chain)) t u) → Begins (StateBegins g part at held) t u answer
state_begun g part at held r t u answer replay fault first =
    let lines = part_json g.rules.value part at (chain_of r.chain) in
    fault_begins (fault_of r) (StateBegins g part at held) t u answer fault
    (λ none. begins_by (AreFirstLines lines) (StateBegins g part at held) t u answer (λ text h. (r, replay, none, h)) (begins_first lines t u answer first))

-- an end of a store says nothing of what was told
pub end_silent : (e : End) → IfSome (end_fault e) IsSilent
end_silent Clean = tt
end_silent Torn = λ before after. tt
end_silent (Damaged n) = λ before after. tt
end_silent DeviceFailed = λ before after. tt

pub end_told : (good : Bool) (o : Option Failure) (t u : Told) (answer : Result (Unit {0}) Failure) → answer ≡ ends_with good o → IsMore t u →
    u.failed ≡ t.failed → t.printed < u.printed → IfSome o IsSilent → Tells t u answer
end_told good (Some failure) t u answer is more whole printed silent = subst (λ (a : Result (Unit {0}) Failure). Tells t u a) (sym is) (more, silent t u)
end_told true None t u answer is more whole printed silent = subst (λ (a : Result (Unit {0}) Failure). Tells t u a) (sym is) (more, whole)
end_told false None t u answer is more whole printed silent = subst (λ (a : Result (Unit {0}) Failure). Tells t u a) (sym is) (more, printed)

-- the chain is shown, and then what is found of it
pub show_told : (g : Genesis) (from to : ℕ) (r : Replayed) (t u v : Told) (good : Bool) (answer : Result (Unit {0}) Failure) → answer ≡ ends_with good None →
    IsMore t v → v.failed ≡ t.failed → HasLines (chain_json g from to (chain_of r.chain)) t.bytes u.bytes → EndsBy g r u.bytes v.bytes good →
    Answers (ShowsReplay g from to r) t v answer
show_told g from to r t u v good answer is more whole chain ends =
    let line = ending_json ends.0 (length (chain_of r.chain)) r.end ∷ [] in
    let lines = more_lines (chain_json g from to (chain_of r.chain)) line t.bytes u.bytes v.bytes chain ends.3 in
    let p = lines_printed (chain_json g from to (chain_of r.chain) ++ line) t v more whole lines in
    inr (p.0, (ends.0, ends.1, is ∙ ap (λ (b : Bool). ends_with b None) ends.2, p.1), p.2)
