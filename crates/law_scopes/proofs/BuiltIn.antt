-- What the first two records of a table say: the lengths and the level that 20 asks for, and the built-in text.
use Prim.Native.Nat.{ℕ, ◌≤◌}
use mathlib.Core.Path.{◌≡◌, refl, sym, ap, ◌∙◌}
use native.Mathlib.Omega.{arith}
use lib.ListN.{take}
use Rattle.scan.specs.Bytes.{bytes, bytes_from, part}
use Rattle.scan.proofs.Bytes.{same_eq}
use Rattle.scan.proofs.Lists.{part_same}
use Rattle.name.specs.Reserved.{xml_prefix, xmlns_prefix, xml_uri, xmlns_uri}
use Rattle.scope_table.specs.Records.{record_at, binding_of, prefix_in, value_in}
use Rattle.scope_table.specs.Table.{built_in, text_of}
use Rattle.scope_table.specs.declared.NamespaceBinding.{NamespaceBinding}
use Rattle.scope_table.specs.declared.NamespaceResolver.{NamespaceResolver}
use Rattle.scope_table.proofs.Good.{Said, says, Shaped, form_of_lem}
use Rattle.law_scopes.specs.Scopes.{made}
use Rattle.law_scopes.specs.Made.{made_of, made_at}
use Rattle.law_scopes.specs.Promises.{BuiltInsStand}

built_whole : take 73 built_in ≡ built_in
unfolding built_in bytes bytes_from
built_whole = refl

-- a record of which the lengths, the level and the start are known
record_is : (b : NamespaceBinding) (a p v l : ℕ) → b.start ≡ a → Said b p v l → b ≡ binding_of a p v l
record_is b a p v l e s =
    let x = s.prefix_len in
    let y = s.value_len in
    let z = s.level in
    let all : binding_of b.start b.prefix_len b.value_len b.level ≡ binding_of a p v l = cc in
    all

module _ (x : NamespaceResolver) (f : Shaped x) where
  text_at : (a e : ℕ) → a ≤ e → e ≤ 73 → part x.text a e ≡ part built_in a e
  text_at a e = part_same 73 x.text built_in a e (same_eq (take 73 x.text) built_in f.opening ∙ sym built_whole)

  pub first_record : record_at x.records 0 ≡ binding_of 0 3 36 0
  unfolding text_of
  first_record = record_is (record_at x.records 0) 0 3 36 0 (f.links 0 (omega (arith, f.two))) (says (record_at x.records 0) 3 36 0 f.xml)

  pub second_record : record_at x.records 1 ≡ binding_of 39 5 29 0
  unfolding text_of
  second_record =
      let s = says (record_at x.records 0) 3 36 0 f.xml in
      record_is (record_at x.records 1) 39 5 29 0 (f.links 1 (omega (arith, f.two)) ∙ omega (arith, s.prefix_len, s.value_len)) (says (record_at x.records 1) 5 29 0 f.xmlns)

  xml_said : made_of x.text (binding_of 0 3 36 0) ≡ made xml_prefix xml_uri 0
  unfolding made_of prefix_in value_in xml_prefix xml_uri built_in bytes bytes_from part
  xml_said = rw (text_at 0 3 (omega arith) (omega arith), text_at 3 39 (omega arith) (omega arith))

  xmlns_said : made_of x.text (binding_of 39 5 29 0) ≡ made xmlns_prefix xmlns_uri 0
  unfolding made_of prefix_in value_in xmlns_prefix xmlns_uri built_in bytes bytes_from part
  xmlns_said = rw (text_at 39 44 (omega arith) (omega arith), text_at 44 73 (omega arith) (omega arith))

pub built_ins_stand : BuiltInsStand
unfolding BuiltInsStand made_at
built_ins_stand x g =
    let f = form_of_lem x g.valid in (
      ap (made_of x.text) (first_record x f) ∙ xml_said x f,
      ap (made_of x.text) (second_record x f) ∙ xmlns_said x f,
    )
