use Rattle.std.proofs.Common.{◌≡◌, Bool, Option, Some, option_map, if◌then◌else◌, ap, sym, ◌∙◌, rules}
use Rattle.endorsement_policy.specs.Installed.{id_of, place_of}
use Rattle.endorsement_policy.specs.declared.installed.ModuleId.{ModuleId}
use Rattle.endorsement_policy.specs.declared.installed.ModulePlace.{ModulePlace}
use Rattle.endorsement_policy.specs.declared.installed.ModulePlace.TheVariants as at
use Rattle.endorsement_policy.proofs.installed.Installed.place_for.Goals as goal

pub returns : goal.returns
returns c =
    let d = c.args.definition.now in
    let modules = c.args.self.now.modules in
    let found : ◌≡◌ {A = Option ModulePlace} c.map.result (option_map at.Installed c.place.result) = search rules in
    found
    ∙ ap (option_map at.Installed) (c.place.ensures ∙ ap (λ (id : ModuleId). place_of modules id.digest id.profile) c.of-id.ensures)
    ∙ sym (ap (λ (b : Bool). if b then (Some (at.Named (id_of d))) else (option_map at.Installed (place_of modules d.digest d.profile))) c.if-definition.false)
