-- The two prefixes and the two URIs that Namespaces 1.0 reserves, as text, and the tests for them.
use Rattle.std.specs.Prelude.{ℕ, Bool, List}
use Rattle.scan.specs.Bytes.{bytes, same_bytes}

unfoldable pub xml_prefix : List ℕ
xml_prefix = bytes "xml"

unfoldable pub xmlns_prefix : List ℕ
xmlns_prefix = bytes "xmlns"

unfoldable pub xml_uri : List ℕ
xml_uri = bytes "http://www.w3.org/XML/1998/namespace"

unfoldable pub xmlns_uri : List ℕ
xmlns_uri = bytes "http://www.w3.org/2000/xmlns/"

-- Prefixes are compared with the bytes xml and xmlns, and values with both URIs, byte by byte and as written.
unfoldable pub is_xml : List ℕ → Bool
is_xml prefix = same_bytes prefix xml_prefix

unfoldable pub is_xmlns : List ℕ → Bool
is_xmlns prefix = same_bytes prefix xmlns_prefix

unfoldable pub is_xml_uri : List ℕ → Bool
is_xml_uri value = same_bytes value xml_uri

unfoldable pub is_xmlns_uri : List ℕ → Bool
is_xmlns_uri value = same_bytes value xmlns_uri
