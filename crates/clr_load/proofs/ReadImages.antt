-- What is known of all parts of an image that were found.
use Rattle.std.proofs.Common.{◌≡◌, ℕ, ◌+◌, ◌≤◌, ◌==◌, Bool, true, false, cond, codes, List, length}
use Rattle.std.proofs.Common.{take, drop, nat_le, refl, sym, ◌∙◌, ap, subst, arith}
use Rattle.std.proofs.lemmas.Bool.Decides.{nat_tests}
use Rattle.clr_mem.specs.Words.{words_of}
use Rattle.clr_mem.proofs.Spelling.{length-words_of}
use Rattle.clr_types.specs.Types.{TypeRow}
use Rattle.clr_types.specs.declared.segment.SegKind.TheVariants.{Ephemeral}
use Rattle.clr_heap.specs.Drafts.{has_kind}
use Rattle.clr_fields.specs.Fields.{fault, field, found, gives, is_from_to, is_up_to, nothing_more, text}
use Rattle.clr_fields.specs.Fields.{◌>>=◌}
use Rattle.clr_fields.specs.TypeFields.{types_fields}
use Rattle.clr_format.specs.HeapFields.{Body, heap_fields}
use Rattle.clr_format.specs.Images.{common_fields, fields_of, first_head_fields, head_fields, here, is_first}
use Rattle.clr_format.specs.Images.{locals_field, magic, Parts, parts_fields, Rest, rest_fields, second_head_fields}
use Rattle.clr_format.specs.Images.{version_tables}
use Rattle.clr_format.specs.TableFields.{no_tables, Tables, tables_fields}
use Rattle.clr_format.specs.declared.head.Head.{Head}
use Rattle.clr_load.proofs.FoundFields.{both_found, gave}
use Rattle.clr_load.proofs.ReadSegments.{heap_made, IsMade}
use Rattle.clr_load.proofs.ReadTables.{AreTablesFound, none_found, tables_found}

module _ (bytes : List ℕ) where
  -- ---- heads

  record HeadIs (first : Bool) (head : Head) : Type 0 where
    first_is : head.first ≡ first
    limit : head.limit ≤ 1073741824

  first_head : (o : ℕ) (head : Head) (n : ℕ) → first_head_fields bytes o ≡ found head n → head.first ≡ true
  unfolding first_head_fields
  first_head o head n e =
      let f = both_found bytes (λ name. field (is_from_to 524288 1073741824) >>= (λ limit. gives (made limit)))
      (text 8 (magic (codes "CLRHEAP1")) bytes o) head n e in
      let g = both_found bytes (λ limit. gives (made limit)) (field (is_from_to 524288 1073741824) bytes f.m) head n
      f.two in
      let same : made g.x ≡ head = (gave (made g.x) g.m head n g.two).0 in
      sym (ap (λ (h : Head). h.first) same)
    where
      made : ℕ → Head
      made limit = record { limit = limit; large = 85000; compact_large = false; first = true }

  second_head : (o : ℕ) (head : Head) (n : ℕ) → second_head_fields bytes o ≡ found head n → head.first ≡ false
  unfolding second_head_fields
  second_head o head n e =
      let f = both_found bytes (λ name. field (is_from_to 524288 1073741824) >>= (λ limit.
      field (is_from_to 85000 67104768) >>= (λ large. field (is_up_to 1) >>= (λ flag. gives (made limit large flag)))))
      (text 8 (magic (codes "CLRHEAP2")) bytes o) head n e in
      let g = both_found bytes (λ limit. field (is_from_to 85000 67104768)
      >>= (λ large. field (is_up_to 1) >>= (λ flag. gives (made limit large flag))))
      (field (is_from_to 524288 1073741824) bytes f.m) head n f.two in
      let h = both_found bytes (λ large. field (is_up_to 1) >>= (λ flag. gives (made g.x large flag)))
      (field (is_from_to 85000 67104768) bytes g.m) head n g.two in
      let k = both_found bytes (λ flag. gives (made g.x h.x flag)) (field (is_up_to 1) bytes h.m) head n h.two in
      let same : made g.x h.x k.x ≡ head = (gave (made g.x h.x k.x) k.m head n k.two).0 in
      sym (ap (λ (q : Head). q.first) same)
    where
      made : ℕ → ℕ → ℕ → Head
      made limit large flag = record { limit = limit; large = large; compact_large = flag == 1; first = false }

  head_first : (first : Bool) (head : Head) (n : ℕ) → head_fields first bytes 0 ≡ found head n → head.first ≡ first
  head_first true head n e = first_head 0 head n e
  head_first false head n e = second_head 0 head n e

  -- ---- locals and tables

  locals_found : (o : ℕ) (locals : List ℕ) (n : ℕ) → locals_field bytes o ≡ found locals n
      → (n ≡ o + 8192) × (n ≤ length bytes) × (length locals ≡ 1024)
  unfolding locals_field
  locals_found o locals n e = go (nat_le (o + 8192) (length bytes)) refl e
    where
      go : (t : Bool) → nat_le (o + 8192) (length bytes) ≡ t
          → cond t (found (words_of 1024 (take 8192 (drop o bytes))) (o + 8192)) (fault o) ≡ found locals n
          → (n ≡ o + 8192) × (n ≤ length bytes) × (length locals ≡ 1024)
      go true on e =
          let same : words_of 1024 (take 8192 (drop o bytes)) ≡ locals = cc in
          let at : o + 8192 ≡ n = cc in (
            sym at,
            grind (arith, nat_tests, on, at),
            ap length (sym same) ∙ length-words_of 1024 (take 8192 (drop o bytes)),
          )
      go false on e = absurd cc

  end_found : (o : ℕ) (x : Unit {0}) (n : ℕ) → nothing_more bytes o ≡ found x n → (n ≡ o) × (n ≡ length bytes)
  end_found o x n e = go (o == length bytes) refl e
    where
      go : (t : Bool) → (o == length bytes) ≡ t → cond t (found tt o) (fault o) ≡ found x n
          → (n ≡ o) × (n ≡ length bytes)
      go true on e =
          let at : o ≡ n = cc in (sym at, grind (arith, nat_tests, on, at))
      go false on e = absurd cc

  version_found : (head : Head) (rows : List TypeRow) (o : ℕ) (t : Tables) (n : ℕ)
      → version_tables head rows bytes o ≡ found t n → AreTablesFound bytes head rows o t n
  version_found head rows o t n e = go head.first e
    where
      go : (b : Bool) → cond b (gives no_tables) (tables_fields head rows) bytes o ≡ found t n
          → AreTablesFound bytes head rows o t n
      go true e = none_found bytes head rows o t n e
      go false e = tables_found bytes head rows o t n e

  -- what is known of what stands behind the heap
  pub record IsRestFound (head : Head) (rows : List TypeRow) (rest : Rest) (n : ℕ) : Type 0 where
    pub locals : length rest.locals ≡ 1024
    pub low : 8192 ≤ rest.tables_at
    pub high : rest.tables_at ≤ length bytes
    pub tables : AreTablesFound bytes head rows rest.tables_at rest.tables (length bytes)
    pub end : n ≡ length bytes

  rest_found : (head : Head) (rows : List TypeRow) (o : ℕ) (rest : Rest) (n : ℕ)
      → rest_fields head rows bytes o ≡ found rest n → IsRestFound head rows rest n
  unfolding rest_fields
  rest_found head rows o rest n e =
      let a = both_found bytes (λ locals. here >>= (λ at. version_tables head rows >>= (λ tables. nothing_more
      >>= (λ end. gives (made locals at tables))))) (locals_field bytes o) rest n e in
      let b = both_found bytes (λ at. version_tables head rows >>= (λ tables. nothing_more
      >>= (λ end. gives (made a.x at tables)))) (here bytes a.m) rest n a.two in
      let c = both_found bytes (λ tables. nothing_more >>= (λ end. gives (made a.x b.x tables)))
      (version_tables head rows bytes b.m) rest n b.two in
      let d = both_found bytes (λ end. gives (made a.x b.x c.x)) (nothing_more bytes c.m) rest n c.two in
      let same : made a.x b.x c.x ≡ rest = (gave (made a.x b.x c.x) d.m rest n d.two).0 in
      let at : d.m ≡ n = (gave _ d.m _ n d.two).1 in
      let locals = locals_found o a.x a.m a.one in
      let locals_end = locals.0 in
      let within = locals.1 in
      let stays : a.m ≡ b.m = let one = b.one in cc in
      let where_ : a.m ≡ b.x = let one = b.one in cc in
      let end = end_found c.m d.x d.m d.one in
      let last = end.0 in
      let whole = end.1 in
      let tables : AreTablesFound bytes head rows b.x c.x c.m =
      subst (λ (i : ℕ). AreTablesFound bytes head rows i c.x c.m) (sym stays ∙ where_)
      (version_found head rows b.m c.x c.m c.one) in
      let finish : c.m ≡ length bytes = omega arith in
      subst (λ (r : Rest). IsRestFound head rows r n) same (record {
        locals = locals.2;
        low = omega arith;
        high = omega arith;
        tables = subst (AreTablesFound bytes head rows b.x c.x) finish tables;
        end = omega arith;
      })
    where
      made : List ℕ → ℕ → Tables → Rest
      made locals at tables = record { locals = locals; tables = tables; tables_at = at }

  -- ---- ALL PARTS

  pub record ArePartsFound (p : Parts) (n : ℕ) : Type 0 where
    pub first : p.head.first ≡ is_first bytes
    pub body : IsMade bytes p.head.large p.types p.body
    pub young : has_kind Ephemeral p.body.heap.segments ≡ true
    pub rest : IsRestFound p.head p.types p.rest n

  common_found : (head : Head) (o : ℕ) (p : Parts) (n : ℕ) → head.first ≡ is_first bytes
      → common_fields head bytes o ≡ found p n → ArePartsFound p n
  unfolding common_fields
  common_found head o p n first e =
      let a = both_found bytes (λ types. heap_fields head types >>= (λ body. rest_fields head types
      >>= (λ rest. gives (made types body rest)))) (types_fields bytes o) p n e in
      let b = both_found bytes (λ body. rest_fields head a.x >>= (λ rest. gives (made a.x body rest)))
      (heap_fields head a.x bytes a.m) p n a.two in
      let c = both_found bytes (λ rest. gives (made a.x b.x rest)) (rest_fields head a.x bytes b.m) p n b.two in
      let same : made a.x b.x c.x ≡ p = (gave (made a.x b.x c.x) c.m p n c.two).0 in
      let at : c.m ≡ n = (gave _ c.m _ n c.two).1 in
      let heap = heap_made bytes head a.x a.m b.m b.x b.one in
      let rest = rest_found head a.x b.m c.x c.m c.one in
      subst (λ (q : Parts). ArePartsFound q n) same (record {
        first = first;
        body = heap.0;
        young = heap.1;
        rest = subst (IsRestFound head a.x c.x) at rest;
      })
    where
      made : List TypeRow → Body → Rest → Parts
      made types body rest = record { head = head; types = types; body = body; rest = rest }

  pub parts_found : (p : Parts) (n : ℕ) → fields_of bytes ≡ found p n → ArePartsFound p n
  unfolding parts_fields
  parts_found p n e =
      let a = both_found bytes common_fields (head_fields (is_first bytes) bytes 0) p n e in
      common_found a.x a.m p n (head_first (is_first bytes) a.x a.m a.one) a.two
