-- Words, and what `clap` makes of them.
use Rattle.std.proofs.Common.{◌≡◌, List, [], ◌∷◌, Some, None, codes, refl}
use Rattle.clap.proofs.OnLiterals.{clap_on_literals}
use Rattle.clap.specs.Words.{Text, all_of, fault_of, first_of, matches_of}
use Rattle.clap.specs.declared.error.kind.ErrorKind.TheVariants.{ArgumentConflict, MissingRequiredArgument, UnknownArgument}
use Rattle.chem_shell.specs.Words.{chemdb_app}

abbrev page_first : List Text
page_first = codes "--page" ∷ codes "3" ∷ codes "mem" ∷ []

page_first_is : (fault_of chemdb_app page_first ≡ [])
    × (first_of (codes "command") (matches_of chemdb_app page_first) ≡ Some (codes "mem"))
    × (first_of (codes "page") (matches_of chemdb_app page_first) ≡ Some (codes "3"))
    × (all_of (codes "args") (matches_of chemdb_app page_first) ≡ None)
unfolding clap_on_literals
page_first_is = (refl, refl, refl, refl)

abbrev dashes : List Text
dashes = codes "mem" ∷ codes "--workers=16" ∷ codes "--" ∷ codes "--page" ∷ []

-- behind `--` each word is a value
dashes_are : (fault_of chemdb_app dashes ≡ [])
    × (first_of (codes "workers") (matches_of chemdb_app dashes) ≡ Some (codes "16"))
    × (all_of (codes "args") (matches_of chemdb_app dashes) ≡ Some (codes "--page" ∷ []))
unfolding clap_on_literals
dashes_are = (refl, refl, refl)

abbrev bulk : List Text
bulk = codes "bulk" ∷ codes "1" ∷ codes "--page=7" ∷ codes "2" ∷ []

bulk_is : (fault_of chemdb_app bulk ≡ [])
    × (first_of (codes "command") (matches_of chemdb_app bulk) ≡ Some (codes "bulk"))
    × (all_of (codes "args") (matches_of chemdb_app bulk) ≡ Some (codes "1" ∷ codes "2" ∷ []))
    × (first_of (codes "commits") (matches_of chemdb_app bulk) ≡ None)
unfolding clap_on_literals
bulk_is = (refl, refl, refl, refl)

nothing_is_refused : fault_of chemdb_app [] ≡ MissingRequiredArgument ∷ []
unfolding clap_on_literals
nothing_is_refused = refl

twice_is_refused : fault_of chemdb_app (codes "mem" ∷ codes "--page=3" ∷ codes "--page=3" ∷ []) ≡ ArgumentConflict ∷ []
unfolding clap_on_literals
twice_is_refused = refl

help_is_refused : fault_of chemdb_app (codes "mem" ∷ codes "--help" ∷ []) ≡ UnknownArgument ∷ []
unfolding clap_on_literals
help_is_refused = refl
