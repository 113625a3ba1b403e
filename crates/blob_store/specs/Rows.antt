-- Rows as a map.
use Rattle.std.specs.Map.{lookup}
use Rattle.port.specs.Contents.{Contents, is_same_key}
use Rattle.blob_store.specs.declared.rows.Rows.{Rows}

abbrev pub contents_of : Rows → Contents
contents_of rows = λ key. lookup (is_same_key key) rows.map.entries
