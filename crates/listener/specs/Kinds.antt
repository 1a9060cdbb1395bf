-- What kind of page a file is, by its name.
use Rattle.std.specs.Prelude.{ℕ, ◌==◌, ◌||◌, ◌&&◌, nat_le, Bool, List, codes, if◌then◌else◌, Option, Some, None}
use Rattle.std.specs.List.{ends_with, list_all}
use Rattle.listener.specs.declared.kinds.Kind.{Kind}
use Rattle.listener.specs.declared.kinds.Kind.TheVariants.{Html, Script, Style, Svg, Png, Icon, Json, Manifest}

-- the letters of a name: small ones, digits, `-` and `.`
abbrev pub is_letter : ℕ → Bool
is_letter b = (nat_le 97 b && nat_le b 122) || ((nat_le 48 b && nat_le b 57) || (b == 45 || b == 46))

-- the name ends so
abbrev pub ends : List ℕ → List ℕ → Bool
ends name ending = ends_with ◌==◌ name ending

-- the kind by the ending
abbrev pub kind_by : List ℕ → Option Kind
kind_by name =
    if ends name (codes ".html") then Some Html
    else (if ends name (codes ".js") then Some Script
    else (if ends name (codes ".css") then Some Style
    else (if ends name (codes ".svg") then Some Svg
    else (if ends name (codes ".png") then Some Png
    else (if ends name (codes ".ico") then Some Icon
    else (if ends name (codes ".json") then Some Json
    else (if ends name (codes ".webmanifest") then Some Manifest else None)))))))

-- the kind of the page of this name; none where the name has another letter or another ending
abbrev pub kind_of : List ℕ → Option Kind
kind_of name = if list_all is_letter name then kind_by name else None

-- the media type of a kind
abbrev pub media_type : Kind → List ℕ
media_type Html = codes "text/html; charset=utf-8"
media_type Script = codes "text/javascript; charset=utf-8"
media_type Style = codes "text/css; charset=utf-8"
media_type Svg = codes "image/svg+xml"
media_type Png = codes "image/png"
media_type Icon = codes "image/x-icon"
media_type Json = codes "application/json"
media_type Manifest = codes "application/manifest+json"
