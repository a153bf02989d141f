-- A whole listing: a caller goes on from place to place until the end.
use Rattle.std.specs.Prelude.{ℕ, zero, suc, ◌+◌, ◌-◌, ◌<◌, ◌≡◌, Bool, true, false, not, List, [], ◌∷◌, Some, None, Ok, Err}
use Rattle.scan.specs.First.{pick}
use Rattle.scope_table.specs.Records.{record_at, value_start, value_end, prefix_in}
use Rattle.scope_table.specs.declared.NamespaceBinding.{NamespaceBinding}
use Rattle.scope_table.specs.declared.NamespaceResolver.{NamespaceResolver}
use Rattle.scope_lookup.specs.Lookup.{is_default, resolve_prefix_of}
use Rattle.scope_lookup.specs.declared.ResolveResult.TheVariants.{Bound}
use Rattle.scope_listing.specs.Listing.{Listed, in_effect, at_level, shown_of, bindings_of, bindings_at_of}
use Rattle.scope_listing.specs.declared.Listing.{Listing}

-- whether this is the end of a listing
unfoldable pub is_last : Listed → Bool
is_last (Ok (Some b)) = false
is_last (Ok None) = true
is_last (Err why) = false

-- what the steps of a listing show from a place on, up to the end and at most n
unfoldable pub list_all : (step : ℕ → Listing) (n place : ℕ) → List Listed
list_all step zero place = []
list_all step (suc n) place =
    pick (is_last (step place).answer) [] ((step place).answer ∷ list_all step n (step place).place)

-- of n records from i on, those that pass p, each once and in their order
unfoldable pub showing : (rows : ℕ → NamespaceBinding) (p : ℕ → Bool) (i n : ℕ) → List Listed
showing rows p i zero = []
showing rows p i (suc n) = pick (p i) (shown_of (rows i) ∷ showing rows p (suc i) n) (showing rows p (suc i) n)

-- `bindings`, from place 0 on, shows all bindings in effect but the built-in ones, and nothing else.
abbrev pub ListsInEffect : NamespaceResolver → Type 0
ListsInEffect x =
    let rows = record_at x.records in
    let count = x.head.count in
    (more : ℕ) →
    list_all (λ place. bindings_of place x) (suc count + more) 0 ≡ showing rows (in_effect x.text rows count) 2 (count - 2)

-- `bindings_of`, from place 0 on, shows all nonempty bindings of a level, and nothing else.
abbrev pub ListsLevel : (level : ℕ) → NamespaceResolver → Type 0
ListsLevel level x =
    let rows = record_at x.records in
    let count = x.head.count in
    (more : ℕ) →
    list_all (λ place. bindings_at_of level place x) (suc count + more) 0 ≡ showing rows (λ i. at_level level (rows i)) 0 count

-- A binding in effect is what its prefix resolves to, or the default where it has none.
abbrev pub EffectResolves : NamespaceResolver → Type 0
EffectResolves x =
    let rows = record_at x.records in
    (i : ℕ) → i < x.head.count → in_effect x.text rows x.head.count i ≡ true →
    resolve_prefix_of (prefix_in x.text (rows i)) (not (is_default (rows i))) true x ≡ Ok (Bound (value_start (rows i)) (value_end (rows i)))
